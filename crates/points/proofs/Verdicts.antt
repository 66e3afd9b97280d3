-- From the parts of the examination to its verdict. Assumes nothing.
use Rattle.std.proofs.Common.{◌≡◌, ℕ, zero, suc, ◌<◌, ◌≤◌, min, max, true, false, ◌&&◌, leb, Some, Ok, Err, Result, sym, ap, ◌∙◌, subst, inl, inr, arith}
use Rattle.std.proofs.lemmas.Bool.{cases_lt, and_from, and_left, and_right, le-leb, lt-leb}
use Rattle.model.specs.Charts.{IsLevel}
use Rattle.model.specs.declared.fault.Fault.{Fault}
use Rattle.hisc.specs.Lines.{Line, high, low}
use Rattle.hisc.specs.Sizes.{Cells, greatest, largest_low, largest_walk, size, enough}
use Rattle.hisc.specs.Verdict.{tests, SizesFit, Verdict, incomplete, oversize, faulty, passed}
use Rattle.hisc.proofs.Verdicts.{tests-points}
use Rattle.points.specs.Examined.{cells_in, fault_in}
use Rattle.measure.specs.Measured.{Unmeasured, sizes_of, greatest_low}
use Rattle.points.specs.Tried.{TriedAll}
use Rattle.measure.specs.declared.sizes.WalkSizes.{WalkSizes}
use Rattle.measure.proofs.WalkSizes.{greatest-low}

greatest-at : (n : ℕ) (f : ℕ → ℕ) (j : ℕ) → 1 ≤ j → j ≤ n → f j ≤ greatest n f
greatest-at zero f j a b = absurd (omega arith)
greatest-at (suc n) f j a b =
    elim (cases_lt j (suc n)) [
      | inl lt ↦ omega (arith, greatest-at n f j a (omega arith))
      | inr ge ↦ (let z : suc n ≡ j = omega arith in subst (λ (m : ℕ). f m ≤ max (greatest n f) (f (suc n))) z (let h : f (suc n) ≤ max (greatest n f) (f (suc n)) = omega arith in h))
    ]

module _ (l : Line) where
  pub low-largest : (j : ℕ) → IsLevel l.chart j → size l (low l j) ≤ largest_walk l
  unfolding largest_low
  low-largest j v = omega (arith, greatest-at l.chart.levels (λ j. size l (low l j)) j v.0 v.1)

  pub enough-cells : (a b c : ℕ) → largest_walk l ≤ a → largest_walk l ≤ b → largest_walk l ≤ c → enough l (cells_in a b c) ≡ true
  enough-cells a b c p q r =
      and_from (leb (largest_walk l) a && leb (largest_walk l) b) (leb (largest_walk l) c) (and_from (leb (largest_walk l) a) (leb (largest_walk l) b) (le-leb (largest_walk l) a p) (le-leb (largest_walk l) b q)) (le-leb (largest_walk l) c r)

  pub few-cells-of : (a b c : ℕ) → min (min a b) c < largest_walk l → enough l (cells_in a b c) ≡ false
  few-cells-of a b c h =
      elim (cases_lt a (largest_walk l)) [
        | inl x ↦ and_left (leb (largest_walk l) a && leb (largest_walk l) b) (leb (largest_walk l) c) (and_left (leb (largest_walk l) a) (leb (largest_walk l) b) (lt-leb (largest_walk l) a x))
        | inr x ↦ elim (cases_lt b (largest_walk l)) [
          | inl y ↦ and_left (leb (largest_walk l) a && leb (largest_walk l) b) (leb (largest_walk l) c) (and_right (leb (largest_walk l) a) (leb (largest_walk l) b) (lt-leb (largest_walk l) b y))
          | inr y ↦ and_right (leb (largest_walk l) a && leb (largest_walk l) b) (leb (largest_walk l) c) (lt-leb (largest_walk l) c (omega arith))
        ]
      ]

  pub judged : (n : ℕ) (cells : Cells) → SizesFit l n → enough l cells ≡ true → (r : Result (Unit {0}) Fault) → TriedAll l (tests l) r → Verdict l n cells (fault_in r)
  judged n cells s e (Ok u) h = passed s e ((tests-points l).enough_tests h)
  judged n cells s e (Err f) h = faulty s e h

  pub unmeasured : (n : ℕ) (cells : Cells) (f : Fault) → Unmeasured l n f → Verdict l n cells (Some f)
  unmeasured n cells f (inl h) = subst (λ (g : Fault). Verdict l n cells (Some g)) (sym h.1) (incomplete h.0)
  unmeasured n cells f (inr h) = subst (λ (g : Fault). Verdict l n cells (Some g)) (sym h.1.2) (oversize h.0 h.1.1)

  -- the greatest of the sizes is that of the largest walk
  pub largest-of : l.chart.levels ≤ 8 → (sizes : WalkSizes) → sizes ≡ sizes_of l → max sizes.high (greatest_low sizes) ≡ largest_walk l
  largest-of few sizes z = ap (λ (s : WalkSizes). max s.high (greatest_low s)) z ∙ ap (max (size l (high l))) (greatest-low l few)
