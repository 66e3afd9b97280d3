-- The lowest number that passes, and the lowest level that is not at rest. Assumes nothing.
use Rattle.std.proofs.Common.{◌≡◌, ℕ, suc, ◌<◌, ◌≤◌, Bool, true, false, not, leb, Some, None, Option, sym, refl, inl, inr, arith}
use mathlib.Core.Option.{some}
use Rattle.std.proofs.lemmas.Bool.{cases_lt, leb-true, le-leb, lt-leb, and_parts, and_from, and_left, and_right, not_from_true, not_from_false}
use Rattle.model.specs.Charts.{IsLevel}
use Rattle.model.specs.Numbers.{first}
use Rattle.model.proofs.Finds.{first-or, first-is, is-first, never}
use Rattle.hisc.specs.Guide.{not_at_rest}
use Rattle.hisc.specs.Lines.{Line, State}
use Rattle.hisc.specs.Points.{at_rest}
use Rattle.guidance.specs.Ready.{maybe}

-- the lowest number below n that passes, as the code finds it
pub first-told : (n : ℕ) (p : ℕ → Bool) (o : Option ℕ) → ((k : ℕ) → o ≡ Some k → (k < n) × (p k ≡ true) × ((i : ℕ) → i < k → p i ≡ false)) →
    (o ≡ None → (i : ℕ) → i < n → p i ≡ false) → maybe o ≡ first n p
first-told n p (Some k) found missed = let h = found k refl in sym (is-first n p k (record { within = h.0; holds = h.1; before = h.2 }))
first-told n p None found missed =
    elim (first-or n p) [
      | inl r ↦ never r.2.holds (missed refl r.0 r.2.within)
      | inr r ↦ sym r.0
    ]

module _ (l : Line) (x : State) where
  level-zero : (j : ℕ) → j < 1 → not_at_rest l x j ≡ false
  level-zero j h = and_left (leb 1 j) (not (at_rest l j x)) (lt-leb 1 j h)

  rested : (j : ℕ) → at_rest l j x ≡ true → not_at_rest l x j ≡ false
  rested j h = and_right (leb 1 j) (not (at_rest l j x)) (not_from_true (at_rest l j x) h)

  unrested : (j : ℕ) → 1 ≤ j → at_rest l j x ≡ false → not_at_rest l x j ≡ true
  unrested j v h = and_from (leb 1 j) (not (at_rest l j x)) (le-leb 1 j v) (not_from_false (at_rest l j x) h)

  -- the lowest of levels 1 to n that is not at rest, as the code finds it
  pub unrested-told : (o : Option ℕ) → ((j : ℕ) → o ≡ Some j → (1 ≤ j) × (j ≤ l.chart.levels) × (at_rest l j x ≡ false) × ((i : ℕ) → 1 ≤ i → i < j → at_rest l i x ≡ true)) →
      (o ≡ None → (i : ℕ) → 1 ≤ i → i ≤ l.chart.levels → at_rest l i x ≡ true) → maybe o ≡ first (suc l.chart.levels) (not_at_rest l x)
  unrested-told o found missed =
      first-told (suc l.chart.levels) (not_at_rest l x) o
      (λ j e. let h = found j e in (
        omega (arith, h.1),
        unrested j h.0 h.2,
        λ i lt. elim (cases_lt i 1) [
          | inl zero ↦ level-zero i zero
          | inr low ↦ rested i (h.3 i low lt)
        ],
      ))
      (λ e i lt. elim (cases_lt i 1) [
        | inl zero ↦ level-zero i zero
        | inr low ↦ rested i (missed e i low (omega arith))
      ])

  -- the lowest level that is not at rest is a level
  pub unrested-level : (j : ℕ) → some j ≡ first (suc l.chart.levels) (not_at_rest l x) → IsLevel l.chart j
  unrested-level j h =
      let f = first-is (suc l.chart.levels) (not_at_rest l x) j (sym h) in
      (leb-true 1 j (and_parts (leb 1 j) (not (at_rest l j x)) f.holds).0, omega (arith, f.within))
