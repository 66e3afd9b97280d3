-- What is known only to be so of a line is found again: a word is searched for by its length. Assumes nothing.
use Rattle.std.proofs.Common.{◌≡◌, ℕ, suc, ◌<◌, Bool, true, false, eqb, List, [], ◌∷◌, length, refl, subst, inl, inr, arith}
use Rattle.std.proofs.Math.Logic.{∥∥₁_elim, ∥∥₁_map}
use mathlib.Core.HLevel.{Σ_prop_path, ×_prop, Π_prop}
use mathlib.Core.Bool.{Bool-set}
use Rattle.std.specs.Coded.{le_prop, Coded-set, coded_list, coded_ℕ}
use Rattle.std.proofs.lemmas.Bool.{cases_lt, eqb-true, eq-eqb, ltb-true}
use Rattle.model.specs.Numbers.{all}
use Rattle.model.specs.Generators.{Gen}
use Rattle.model.specs.Automata.{Automaton, Leads, Coreachable, reaches}
use Rattle.model.proofs.Finds.{never, bool_iff, first_some, all_from, all-at}
use Rattle.model.proofs.Words.{leads-reach, leads-like, reach-word}
use Rattle.generators.specs.declared.bank.Bank.{Ghosts}
use Rattle.hisc.specs.Lines.{Line, State, components, flat, high, low, initial, moved, possible, Same, Reached, begin, step}
use Rattle.hisc.specs.Points.{low_enabled, high_automaton, low_automaton, to_rest, to_answer, Points}
use Rattle.hisc.proofs.Facts.{low_below, high-below, low_enabled-parts}
use Rattle.hisc.proofs.Walks.{possible-alphabet, possible-like, moved-like, same-sym, reached-same}
use Rattle.walks.specs.Rows.{row_state}
use Rattle.walks.specs.declared.row.Row.{Row}
use Rattle.line.specs.Checked.{Checked, Runs}
use Rattle.walks.specs.Given.{line_given}
use Rattle.walks.specs.declared.line.Line.{Line as Given}
use Rattle.line.specs.declared.passed.Passed.{Passed}
use Rattle.line.specs.declared.running.Running.{Running}

module _ (p : ℕ → Bool) where
  Least : ℕ → Type 0
  Least k = (p k ≡ true) × ((i : ℕ) → i < k → p i ≡ false)

  one-least : (j k : ℕ) → Least j → Least k → j ≡ k
  unfolding Least
  one-least j k x y =
      elim (cases_lt j k) [
        | inl lt ↦ never x.0 (y.1 j lt)
        | inr ge ↦ elim (cases_lt k j) [
          | inl lt ↦ never y.0 (x.1 k lt)
          | inr le ↦ omega arith
        ]
      ]

  -- the least number that passes a test
  passes-again : ∥ ((k : ℕ) × (p k ≡ true)) ∥₁ → ((k : ℕ) × (p k ≡ true))
  unfolding Least
  passes-again h =
      let r : ((k : ℕ) × Least k) = ∥∥₁_elim h
      (λ u w. Σ_prop_path (λ k. ×_prop (Bool-set _ _) (Π_prop (λ i. Π_prop (λ lt. Bool-set _ _)))) (one-least u.0 w.0 u.1 w.1))
      (λ t. let f = first_some (suc t.0) p t.0 (omega arith) t.1 in (f.0, (f.2.holds, f.2.before))) in
      (r.0, r.1.0)

word-again : {S : Type 0} (a : Automaton S) → ((s : S) (e : ℕ) → a.enabled s e ≡ true → e < a.events) → (s : S) → ∥ Coreachable a s ∥₁ → Coreachable a s
word-again a inn s h =
    let r = passes-again (λ k. reaches a k s) (∥∥₁_map h (λ w. (length w.0, leads-reach a inn w.0 s w.1))) in
    reach-word a r.0 s r.1

module _ (l : Line) where
  -- the whole line, to the state x
  module _ (x : State) where
    abbrev at : State → Bool
    at y = all (components l) (λ c. eqb (y c) (x c))

    abbrev to : Automaton State
    to = record { events = l.chart.events; enabled = possible l (flat l); move = moved l; marked = at }

    at-half : (y z : State) → Same l (flat l) y z → at y ≡ true → at z ≡ true
    at-half y z s t =
        all_from (components l) (λ c. eqb (z c) (x c))
        (λ c lt. subst (λ (m : ℕ). eqb m (x c) ≡ true) (s c lt refl) (all-at (components l) (λ c. eqb (y c) (x c)) t c lt))

    to-like : (y z : State) → Same l (flat l) y z → (w : List ℕ) → Leads to w y → Leads to w z
    to-like y z s w =
        leads-like to (Same l (flat l)) (λ y z s. bool_iff (at y) (at z) (at-half y z s) (at-half z y (same-sym l (flat l) y z s)))
        (possible-like l (flat l)) (moved-like l (flat l)) w y z s

    way-to : {y : State} → Reached l (flat l) y → (w : List ℕ) → Leads to w y → Coreachable to (initial l)
    way-to {y = y} (begin s) w g = (w, to-like y (initial l) (same-sym l (flat l) (initial l) y s) w g)
    way-to {y = z} (step {y = y} e r p s) w g =
        way-to r (e ∷ w) (p, to-like z (moved l y e) (same-sym l (flat l) (moved l y e) z s) w g)

    way-back : (w : List ℕ) (y : State) → Reached l (flat l) y → Leads to w y → Reached l (flat l) x
    way-back [] y r g = reached-same l (flat l) y x (λ c lt i. eqb-true (y c) (x c) (all-at (components l) (λ c. eqb (y c) (x c)) g c lt)) r
    way-back (e ∷ w) y r g = way-back w (moved l y e) (step e r g.0 (λ c lt i. refl)) g.1

    reached-again : ∥ Reached l (flat l) x ∥₁ → Reached l (flat l) x
    reached-again h =
        let w = word-again to (λ y e p. ltb-true e l.chart.events (possible-alphabet l (flat l) y e p)) (initial l)
        (∥∥₁_map h (λ r. way-to r [] (all_from (components l) (λ c. eqb (x c) (x c)) (λ c lt. eq-eqb (x c) (x c) refl)))) in
        way-back w.0 (initial l) (begin (λ c lt i. refl)) w.1

  module _ (h : ∥ Points l ∥₁) where
    -- a fact about booleans
    was : {b c : Bool} → (Points l → b ≡ c) → b ≡ c
    was f = ∥∥₁_elim h (Bool-set _ _) f

    low-word : (j : ℕ) (x : State) → (Points l → Coreachable (low_automaton l j) x) → Coreachable (low_automaton l j) x
    low-word j x f = word-again (low_automaton l j) (λ y e p. low_below l j e (possible-alphabet l (low l j) y e p)) x (∥∥₁_map h f)

    by-low : (j : ℕ) (y : State) (e : ℕ) → low_enabled l j y e ≡ true → e < l.chart.events
    by-low j y e p = low_below l j e (possible-alphabet l (low l j) y e (low_enabled-parts l j y e p).0)

    points-again : Points l
    points-again = record {
      alphabets = λ c lt e. was (λ p. p.alphabets c lt e);
      command_pairs = λ j v. record {
        begins = was (λ p. (p.command_pairs j v).begins);
        alternates = λ x r e lt can. was (λ p. (p.command_pairs j v).alternates x r e lt can);
      };
      answers_accepted = λ x r e lt a can. (was (λ p. (p.answers_accepted x r e lt a can).0), was (λ p. (p.answers_accepted x r e lt a can).1));
      requests_accepted = λ j v x r e lt a can.
          (was (λ p. (p.requests_accepted j v x r e lt a can).0), was (λ p. (p.requests_accepted j v x r e lt a can).1));
      answers_reachable = λ j v x n a lt is can.
          word-again (to_answer l j a) (by-low j) x (∥∥₁_map h (λ p. p.answers_reachable j v x n a lt is can));
      rest_reachable = λ j v x r m. word-again (to_rest l j) (by-low j) x (∥∥₁_map h (λ p. p.rest_reachable j v x r m));
      low_nonblocking = λ j v x r. low-word j x (λ p. p.low_nonblocking j v x r);
      high_nonblocking = λ x r.
          word-again (high_automaton l) (λ y e p. high-below l e (possible-alphabet l (high l) y e p)) x (∥∥₁_map h (λ p. p.high_nonblocking x r));
      low_controllable = λ j v x r e lt u can.
          (was (λ p. (p.low_controllable j v x r e lt u can).0), was (λ p. (p.low_controllable j v x r e lt u can).1));
      high_controllable = λ x r e lt u can f. was (λ p. p.high_controllable x r e lt u can f);
    }

module _ {B : Type 0} (list : B → List Gen) (given : Given B) where
  -- what a line that passed, and one that runs, is known to be
  checked-again : ∥ Checked list given ∥₁ → Checked list given
  checked-again h = record {
    sizes = record {
      complete = ∥∥₁_elim h (Coded-set coded_ℕ _ _) (λ c. c.sizes.complete);
      top = ∥∥₁_elim h le_prop (λ c. c.sizes.top);
      lows = λ j v. ∥∥₁_elim h le_prop (λ c. c.sizes.lows j v);
    };
    points = points-again (line_given list given) (∥∥₁_map h (λ c. c.points));
  }

  runs-again : (row : Row) → ∥ Runs list given row ∥₁ → Runs list given row
  runs-again row h = record {
    checked = checked-again (∥∥₁_map h (λ r. r.checked));
    reached = reached-again (line_given list given) (row_state row) (∥∥₁_map h (λ r. r.reached));
    shown = ∥∥₁_elim h (Coded-set (coded_list coded_ℕ) _ _) (λ r. r.shown);
  }

module _ {B : Type 0} {gh : Ghosts B} where
  pub checked_in : (passed : Passed B gh) → Checked gh.list passed.line
  checked_in passed = checked-again gh.list passed.line passed.checked

  pub runs_in : (running : Running B gh) → Runs gh.list running.passed.line running.row
  runs_in running = runs-again gh.list running.passed.line running.row running.runs
