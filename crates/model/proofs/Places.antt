-- The first place that does not pass. Assumes nothing.
use Rattle.std.proofs.Common.{◌≡◌, ℕ, ◌<◌, ◌≤◌, Bool, true, false, not, refl, ap, ◌∙◌, inl, inr, arith}
use Rattle.std.proofs.lemmas.Bool.{cases_lt}
use Rattle.model.specs.Readings.{first_off, or_bound}
use Rattle.model.proofs.Finds.{first-or, is-first, never}

flip : (b : Bool) → b ≡ true → not b ≡ false
flip b h = rw h refl

flop : (b : Bool) → b ≡ false → not b ≡ true
flop b h = rw h refl

-- the place whose earlier places pass, and that does not
pub first_off-is : (n : ℕ) (p : ℕ → Bool) (i : ℕ) → i ≤ n → ((k : ℕ) → k < i → p k ≡ true) → (i < n → p i ≡ false) → first_off n p ≡ i
unfolding first_off
first_off-is n p i within before at =
    elim (cases_lt i n) [
      | inl lt ↦ ap (or_bound n) (is-first n (λ k. not (p k)) i (record { within = lt; holds = flop (p i) (at lt); before = λ k h. flip (p k) (before k h) }))
      | inr ge ↦ elim (first-or n (λ k. not (p k))) [
        | inl r ↦ never r.2.holds (flip (p r.0) (before r.0 (omega (arith, r.2.within))))
        | inr r ↦ ap (or_bound n) r.0 ∙ (let e : n ≡ i = omega arith in e)
      ]
    ]
