-- What the components of a bank reply to an event, one after the other, and what an offer of it comes to. Assumes nothing.
use Rattle.std.proofs.Common.{Option as Maybe, ◌≡◌, ℕ, zero, suc, ◌+◌, ◌<◌, ◌≤◌, Bool, true, false, cond, not, ◌||◌, ◌≢◌, List, [], ◌∷◌, length, get_or, ◌++◌, set, Some, None, Ok, sym, refl, ap, ◌∙◌, subst, inl, inr, arith}
use mathlib.Core.Path.{fun_ext}
use mathlib.Core.Option.{Option}
use Rattle.std.proofs.lemmas.List.{length-append, get_or_append_left, get_or_past, get_or-set_same, get_or-set_other, set-append_left}
use Rattle.std.proofs.lemmas.Bool.{cases_Bool, cases_lt, lt-ltb, or_from, not_from_true, not_from_false}
use Rattle.model.specs.Charts.{EventChart}
use Rattle.model.specs.Generators.{Gen, AllFormed, nothing, is_to, target, permits, forbids, moves}
use Rattle.model.specs.declared.next.Next.{Next}
use Rattle.model.specs.declared.next.Next.TheVariants.{Foreign, Forbidden, To}
use Rattle.model.specs.declared.fault.Fault.TheVariants.{EventNumber, Refused}
use Rattle.model.proofs.Finds.{never, is-first}
use Rattle.generators.specs.declared.bank.Bank.{Ghosts}
use Rattle.charts.specs.Meanings.{chart_of}
use Rattle.hisc.specs.Lines.{Line, line_of, components, flat, initial, moved, possible}
use Rattle.hisc.specs.Calls.{refused, refuser, unless_refused, offer_reply}
use Rattle.hisc.proofs.Walks.{possible-make, unknown-free, unknown-moves, permits-free}
use Rattle.hisc.proofs.Replies.{possible_accepted}
use Rattle.walks.specs.Rows.{row_state}
use Rattle.walks.specs.declared.row.Row.{Row}
use Rattle.line.specs.Answers.{line_in, state_in}
use Rattle.line.specs.Steps.{followed, Stepped}
use Rattle.line.specs.declared.running.Running.{Running}
use Rattle.line.proofs.Known.{runs_in}
use Rattle.line.proofs.Rows.{shown-beyond, runs-step}

-- foreign is what is unknown, and nothing else
record Regular (g : Gen) : Type 0 where
  foreign : (s e : ℕ) → g.knows e ≡ false → g.next s e ≡ Foreign
  known : (s e : ℕ) → g.next s e ≡ Foreign → g.knows e ≡ false

regular-at : (gens : List Gen) → AllFormed gens → (c : ℕ) → Regular (get_or gens c nothing)
regular-at [] f c = record { foreign = λ s e h. refl; known = λ s e h. refl }
regular-at (g ∷ gens) f zero = record { foreign = f.0.foreign; known = f.0.known }
regular-at (g ∷ gens) f (suc c) = regular-at gens f.1 c

abbrev is_foreign : Next → Bool
is_foreign Foreign = true
is_foreign Forbidden = false
is_foreign (To t) = false

-- what a reply says of its component
module _ (g : Gen) (r : Regular g) (s e : ℕ) where
  knows-by : (n : Next) → is_foreign n ≡ false → g.next s e ≡ n → g.knows e ≡ true
  knows-by n i h =
      elim (cases_Bool (g.knows e)) [
        | inl k ↦ k
        | inr u ↦ never {b = true} refl (sym (ap is_foreign (r.foreign s e u)) ∙ ap is_foreign h ∙ i)
      ]

  followed-none : (n : Next) → g.next s e ≡ n → followed n s ≡ None → forbids g s e ≡ true
  followed-none Foreign h f = absurd (let z : ◌≡◌ {A = ℕ} 0 1 = cc in omega arith)
  followed-none Forbidden h f =
      not_from_false (not (g.knows e) || permits g s e)
      (or_from (not (g.knows e)) (permits g s e) (not_from_true (g.knows e) (knows-by Forbidden refl h)) (ap is_to h))
  followed-none (To u) h f = absurd (let z : ◌≡◌ {A = ℕ} 0 1 = cc in omega arith)

  followed-some : (n : Next) (t : ℕ) → g.next s e ≡ n → followed n s ≡ Some t → (forbids g s e ≡ false) × (moves g s e ≡ t)
  followed-some Foreign t h f = let q : s ≡ t = cc in (unknown-free g s e (r.known s e h), unknown-moves g s e (r.known s e h) ∙ q)
  followed-some Forbidden t h f = absurd (let z : ◌≡◌ {A = ℕ} 0 1 = cc in omega arith)
  followed-some (To u) t h f =
      let q : u ≡ t = cc in (
        permits-free g s e (ap is_to h),
        ap (λ (b : Bool). cond b (target (g.next s e) s) s) (knows-by (To u) refl h) ∙ ap (λ (n : Next). target n s) h ∙ q,
      )

-- the first n components permit the event or do not know it, and their places have moved
pub record Moving (gens : List Gen) (row : Row) (event n : ℕ) (states : List ℕ) : Type 0 where
  pub free : (c : ℕ) → c < n → forbids (get_or gens c nothing) (row_state row c) event ≡ false
  pub moved : (c : ℕ) → c < n → get_or states c 0 ≡ moves (get_or gens c nothing) (row_state row c) event
  pub rest : (c : ℕ) → n ≤ c → get_or states c 0 ≡ row_state row c

module _ (gens : List Gen) (formed : AllFormed gens) (row : Row) (e : ℕ) where
  pub moving-none : Moving gens row e 0 row.states
  moving-none = record {
    free = λ c lt. absurd (omega arith);
    moved = λ c lt. absurd (omega arith);
    rest = λ c ge. refl;
  }

  upto : (P : ℕ → Type 0) (n : ℕ) → ((c : ℕ) → c < n → P c) → P n → (c : ℕ) → c < n + 1 → P c
  upto P n below here c lt =
      elim (cases_lt c n) [
        | inl h ↦ below c h
        | inr h ↦ let q : n ≡ c = omega arith in subst P q here
      ]

  module _ (items rest : List ℕ) (n : ℕ) (lt : n < length items) (m : Moving gens row e n (items ++ rest)) where
    -- the place of component n is as it was
    still-there : get_or items n 0 ≡ row_state row n
    still-there = sym (get_or_append_left items rest 0 n lt) ∙ m.rest n (omega arith)

    abbrev reply_at : ℕ → Maybe ℕ
    reply_at state = followed ((get_or gens n nothing).next state e) state

    -- component n has moved to t
    pub moving-more : (t : ℕ) → reply_at (get_or items n 0) ≡ Some t → Moving gens row e (n + 1) (set items n t ++ rest)
    moving-more t h =
        let f = followed-some (get_or gens n nothing) (regular-at gens formed n) (row_state row n) e ((get_or gens n nothing).next (row_state row n) e) t refl (ap reply_at (sym still-there) ∙ h) in
        let states : List ℕ = items ++ rest in
        let far : n < length states = omega (arith, length-append items rest) in
        subst (Moving gens row e (n + 1)) (set-append_left items rest n t lt) (record {
          free = upto (λ c. forbids (get_or gens c nothing) (row_state row c) e ≡ false) n m.free f.0;
          moved = upto (λ c. get_or (set states n t) c 0 ≡ moves (get_or gens c nothing) (row_state row c) e) n
              (λ c k. let ne : c ≢ n = omega arith in get_or-set_other states n c t 0 ne ∙ m.moved c k)
              (get_or-set_same states n t 0 far ∙ sym f.1);
          rest = λ c ge. let ne : c ≢ n = omega arith in get_or-set_other states n c t 0 ne ∙ m.rest c (omega arith);
        })

    -- component n knows and forbids the event
    forbids-it : reply_at (get_or items n 0) ≡ None → forbids (get_or gens n nothing) (row_state row n) e ≡ true
    forbids-it h =
        followed-none (get_or gens n nothing) (regular-at gens formed n) (row_state row n) e ((get_or gens n nothing).next (row_state row n) e) refl (ap reply_at (sym still-there) ∙ h)

  module _ (chart : EventChart) where
    module _ (inside : e < chart.events) where
      abbrev line : Line
      line = line_of chart gens

      -- component n is the lowest that knows and forbids the event
      pub refused-by : (items rest : List ℕ) (n : ℕ) (lt : n < length items) → n < components line → Moving gens row e n (items ++ rest) →
          followed ((get_or gens n nothing).next (get_or items n 0) e) (get_or items n 0) ≡ None → offer_reply line (row_state row) e ≡ refused (Refused n e)
      unfolding refuser
      refused-by items rest n lt few m h =
          let at = is-first (components line) (λ c. forbids (get_or gens c nothing) (row_state row c) e) n
          (record { within = few; holds = forbids-it items rest n lt m h; before = m.free }) in
          ap (λ (b : Bool). cond b (unless_refused line (refuser line (row_state row) e) e) (refused (EventNumber e))) (lt-ltb e chart.events inside)
          ∙ ap (λ (o : Option ℕ). unless_refused line o e) at

      module _ (n : ℕ) (states : List ℕ) (ge : components line ≤ n) (m : Moving gens row e n states) where
        -- no component forbids the event
        pub all-permit : possible line (flat line) (row_state row) e ≡ true
        all-permit = possible-make line (flat line) (row_state row) e (lt-ltb e chart.events inside) (λ c lt i. m.free c (omega arith))

        -- and all that know it have moved
        pub all_moved : length gens ≡ components line → row_state (record { states = states }) ≡ moved line (row_state row) e
        all_moved whole =
            fun_ext (λ c. elim (cases_lt c n) [
              | inl lt ↦ m.moved c lt
              | inr past ↦ m.rest c past ∙ sym (ap (λ (g : Gen). moves g (row_state row c) e) (get_or_past gens c nothing (omega arith)))
            ])

module _ {B : Type 0} {gh : Ghosts B} (r : Running B gh) (e : ℕ) (inside : e < (line_in r).chart.events) where
  -- a row that every component has moved on
  pub stepped : (n : ℕ) (states : List ℕ) → n ≡ components (line_in r) → length states ≡ 26 → Moving (gh.list r.passed.line.bank) r.row e n states →
      Stepped gh.list r.passed.line (state_in r) e (Ok (record { states = states }))
  stepped n states all long m =
      let given = r.passed.line in
      let gens = gh.list given.bank in
      let formed = gh.formed given.bank in
      let known = runs_in r in
      let can = all-permit gens formed r.row e (chart_of given.chart) inside n states (omega arith) m in
      let is = all_moved gens formed r.row e (chart_of given.chart) inside n states (omega arith) m known.checked.sizes.complete in (
        possible_accepted (line_in r) (state_in r) e can,
        is,
        runs-step gh.list given formed r.row known e can states long
            (λ i far. m.rest i (omega arith) ∙ shown-beyond (line_in r) r.row.states known.shown i far) is,
      )

-- all initial states
pub all-initial : (gens : List Gen) (chart : EventChart) → length gens ≡ components (line_of chart gens) → (row : Row) → length row.states ≡ 26 → components (line_of chart gens) ≤ 26 →
    ((c : ℕ) → c < 26 → row_state row c ≡ (get_or gens c nothing).initial) → row_state row ≡ initial (line_of chart gens)
all-initial gens chart whole row long few f =
    fun_ext (λ c. elim (cases_lt c 26) [
      | inl lt ↦ f c lt
      | inr past ↦ get_or_past row.states c 0 (omega arith) ∙ sym (ap (λ (g : Gen). g.initial) (get_or_past gens c nothing (omega arith)))
    ])
