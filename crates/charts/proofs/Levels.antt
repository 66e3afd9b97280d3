-- The lowest level that lacks a request or an answer. Assumes nothing.
use Rattle.std.proofs.Common.{◌≡◌, ℕ, suc, ◌-◌, ◌<◌, ◌≤◌, Bool, true, false, IsTrue, ◌↔◌, not, ◌&&◌, eqb, ltb, Ok, Err, sym, refl, ap, ◌∙◌, inl, inr, arith}
use Rattle.std.proofs.lemmas.Bool.{ltb-true, lt-ltb, le-ltb, and_parts, not-false, cases_Bool}
use Rattle.std.proofs.lemmas.Bool.Decides.{nat_tests}
use Rattle.model.specs.Charts.{EventChart, is_request, is_answer, owns_request, owns_answer}
use Rattle.model.specs.Numbers.{any}
use Rattle.model.specs.Readings.{first_off, or_bound}
use Rattle.model.specs.Sets.{member}
use Rattle.model.specs.declared.fault.Fault.TheVariants.{Level}
use Rattle.model.proofs.Finds.{first-or, any-from, any_some}
use Rattle.model.proofs.Places.{first_off-is}
use Rattle.model.proofs.Turns.{provided-ok}
use Rattle.charts.specs.Rows.{lacking, completed}
use Rattle.charts.specs.Sets.{owned_by, chart_from, Agree}
use Rattle.charts.specs.declared.chart.Sets.{Sets}

-- every place passes if the first that does not lies beyond
first-all : (n : ℕ) (p : ℕ → Bool) → n ≤ first_off n p → (k : ℕ) → k < n → p k ≡ true
unfolding first_off
first-all n p far k h =
    elim (first-or n (λ i. not (p i))) [
      | inl r ↦ absurd (omega (arith, ap (or_bound n) r.1, r.2.within))
      | inr r ↦ not-false (p k) (r.1 k h)
    ]

module _ (c : EventChart) where
  abbrev pub both : ℕ → Bool
  both j = owns_request c j && owns_answer c j

  pub lacks-at : (level : ℕ) → 1 ≤ level → level ≤ c.levels → ((j : ℕ) → 1 ≤ j → j < level → both j ≡ true) → both level ≡ false
      → Err (Level level) ≡ completed c
  unfolding lacking
  lacks-at level some within before off =
      let at : suc (level - 1) ≡ level = omega arith in
      let first : first_off c.levels (λ k. both (suc k)) ≡ level - 1 =
      first_off-is c.levels (λ k. both (suc k)) (level - 1) (omega arith) (λ k h. before (suc k) (omega arith) (omega arith)) (λ _. ap both at ∙ off) in
      let is : lacking c ≡ level = ap suc first ∙ at in
      rw (is, le-ltb c.levels level within) refl

  pub lacks-none : ((j : ℕ) → 1 ≤ j → j ≤ c.levels → both j ≡ true) → Ok c ≡ completed c
  unfolding lacking
  lacks-none all =
      let first : first_off c.levels (λ k. both (suc k)) ≡ c.levels =
      first_off-is c.levels (λ k. both (suc k)) c.levels (omega arith) (λ k h. all (suc k) (omega arith) (omega arith)) (λ h. absurd (omega arith)) in
      let is : ltb c.levels (lacking c) ≡ true = lt-ltb c.levels (lacking c) (omega (arith, first)) in
      rw is refl

  -- a chart that passes owns all that it should
  lacks-not : (d : EventChart) → Ok d ≡ completed c → (j : ℕ) → 1 ≤ j → j ≤ c.levels → both j ≡ true
  unfolding lacking
  lacks-not d p j some within =
      let far = ltb-true c.levels (lacking c) (provided-ok (ltb c.levels (lacking c)) (Level (lacking c)) (Ok c) d p).0 in
      let at : suc (j - 1) ≡ j = omega arith in
      sym (ap both at) ∙ first-all c.levels (λ k. both (suc k)) (omega (arith, far)) (j - 1) (omega arith)

  pub owns-request : (d : EventChart) → Ok d ≡ completed c → (j : ℕ) → 1 ≤ j → j ≤ c.levels → owns_request c j ≡ true
  owns-request d p j s h = (and_parts (owns_request c j) (owns_answer c j) (lacks-not d p j s h)).0

  pub owns-answer : (d : EventChart) → Ok d ≡ completed c → (j : ℕ) → 1 ≤ j → j ≤ c.levels → owns_answer c j ≡ true
  owns-answer d p j s h = (and_parts (owns_request c j) (owns_answer c j) (lacks-not d p j s h)).1

-- a set of the numbers below n that pass is empty if none passes
empty-any : (w n : ℕ) (p : ℕ → Bool) (empty : Bool) → ((e : ℕ) → member w e ≡ (ltb e n && p e)) → (IsTrue empty ↔ ((e : ℕ) → member w e ≡ false)) → any n p ≡ not empty
empty-any w n p empty same told =
    elim (cases_Bool (any n p)) [
      | inl some ↦ let i = any_some n p some in let none = told.0 in grind (arith, nat_tests, same i.0)
      | inr none ↦ let all = told.1 (λ e. grind (arith, nat_tests, same e, any-from n p e)) in grind (arith, nat_tests)
    ]

-- the sets that `complete` asks for
module _ (levels events : ℕ) (s : Sets) (agree : Agree levels events s) (j i : ℕ) (within : j ≤ 8) (same : i ≡ j) where
  abbrev pub chart : EventChart
  chart = chart_from levels events s

  pub requests_empty : (w : ℕ) (empty : Bool) → ((e : ℕ) → member w e ≡ (owned_by s.owned i e && member s.requests.word e)) → (IsTrue empty ↔ ((e : ℕ) → member w e ≡ false))
      → owns_request chart j ≡ not empty
  requests_empty w empty of told =
      empty-any w chart.events (λ e. is_request (chart.kind e) && eqb (chart.owner e) j) empty
      (λ e. grind (arith, nat_tests, of e, agree.owners j e within, agree.asking e)) told

  pub answers_empty : (w : ℕ) (empty : Bool) → ((e : ℕ) → member w e ≡ (owned_by s.owned i e && member s.answers.word e)) → (IsTrue empty ↔ ((e : ℕ) → member w e ≡ false))
      → owns_answer chart j ≡ not empty
  answers_empty w empty of told =
      empty-any w chart.events (λ e. is_answer (chart.kind e) && eqb (chart.owner e) j) empty
      (λ e. grind (arith, nat_tests, of e, agree.owners j e within, agree.answering e)) told
