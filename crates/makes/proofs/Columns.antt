-- The columns of a stock's body. Assumes nothing.
use Rattle.std.proofs.Common.{◌≡◌, ℕ, ◌+◌, ◌-◌, ◌<◌, ◌≤◌, Bool, true, false, not, eqb, ◌≢◌, List, get_or, inl, inr, arith}
use Rattle.std.proofs.lemmas.Bool.{cases_Bool}
use Rattle.std.proofs.lemmas.Bool.Decides.{nat_tests}
use Rattle.model.specs.Numbers.{any}
use Rattle.model.proofs.Finds.{any-from}
use Rattle.makes.specs.Bodies.{column_fits}

-- whether column i is told apart from those before it
pub apart-told : (E : ℕ) (body : List ℕ) (i : ℕ) (earlier : Bool) → 2 ≤ i → get_or body i 0 ≢ 255 → get_or body i 0 < E
    → (any (i - 2) (λ k. eqb (get_or body (2 + k) 0) (get_or body i 0)) ≡ true → earlier ≡ true)
    → (((j : ℕ) → 2 ≤ j → j < i → eqb (get_or body j 0) (get_or body i 0) ≡ false) → earlier ≡ false)
    → not earlier ≡ column_fits E body i
apart-told E body i earlier second some known found missed =
    elim (cases_Bool (any (i - 2) (λ k. eqb (get_or body (2 + k) 0) (get_or body i 0)))) [
      | inl t ↦ let e = found t in grind (arith, nat_tests)
      | inr f ↦
          let none : (j : ℕ) → 2 ≤ j → j < i → eqb (get_or body j 0) (get_or body i 0) ≡ false = λ j l h.
          let at : 2 + (j - 2) ≡ j = omega arith in
          let from = any-from (i - 2) (λ k. eqb (get_or body (2 + k) 0) (get_or body i 0)) (j - 2) (omega arith) in
          grind (arith, nat_tests) in
          let e = missed none in grind (arith, nat_tests)
    ]
