-- Readings one after the other. Assumes nothing.
use Rattle.std.proofs.Common.{◌≡◌, ℕ, zero, suc, ◌<◌, Bool, true, false, Ok, Err, Result, refl, inl, inr, arith}
use Rattle.std.proofs.lemmas.Bool.{cases_lt}
use Rattle.model.specs.Readings.{meant, provided, and_then, in_turn}

pub meant-meant : {X Y Z E : Type 0} (f : X → Y) (g : Y → Z) (r : Result X E) → meant g (meant f r) ≡ meant (λ x. g (f x)) r
meant-meant f g (Ok x) = refl
meant-meant f g (Err e) = refl

pub meant-provided : {X Y E : Type 0} (f : X → Y) (b : Bool) (e : E) (r : Result X E) → meant f (provided b e r) ≡ provided b e (meant f r)
meant-provided f true e r = refl
meant-provided f false e r = refl

pub meant-then : {X Y Z E : Type 0} (g : Y → Z) (r : Result X E) (f : X → Result Y E) → meant g (and_then r f) ≡ and_then r (λ x. meant g (f x))
meant-then g (Ok x) f = refl
meant-then g (Err e) f = refl

-- a reading that gives a value has passed its test
pub provided-ok : {X E : Type 0} (b : Bool) (e : E) (r : Result X E) (x : X) → Ok x ≡ provided b e r → (b ≡ true) × (Ok x ≡ r)
provided-ok true e r x h = (refl, h)
provided-ok false e r x h = absurd (let z : ◌≡◌ {A = ℕ} 0 1 = cc in omega arith)

both : {X E : Type 0} (r : Result (Unit {0}) E) (s : Result X E) → and_then {Y = Unit {0}} r (λ _. and_then {Y = Unit {0}} s (λ _. Ok tt)) ≡ Ok tt → ((x : X) × (s ≡ Ok x)) × (r ≡ Ok tt)
both (Ok u) (Ok x) h = ((x, refl), refl)
both (Ok u) (Err e) h = absurd (let z : ◌≡◌ {A = ℕ} 0 1 = cc in omega arith)
both (Err e) s h = absurd (let z : ◌≡◌ {A = ℕ} 0 1 = cc in omega arith)

module _ {X E : Type 0} (read : ℕ → Result X E) where
  pub turn_on : (n : ℕ) (x : X) → in_turn read n ≡ Ok tt → read n ≡ Ok x → in_turn read (suc n) ≡ Ok tt
  turn_on n x before here = rw (before, here) refl

  -- each of the readings gave a value
  pub turn_at : (n : ℕ) → in_turn read n ≡ Ok tt → (k : ℕ) → k < n → (x : X) × (read k ≡ Ok x)
  turn_at zero h k lt = absurd (omega arith)
  turn_at (suc n) h k lt =
      let r = both (in_turn read n) (read n) h in
      elim (cases_lt k n) [
        | inl l ↦ turn_at n r.1 k l
        | inr g ↦ (let same : n ≡ k = omega arith in rw same at r.0)
      ]

  turn-here : (k : ℕ) (e : E) → in_turn read k ≡ Ok tt → read k ≡ Err e → in_turn read (suc k) ≡ Err e
  turn-here k e before here = rw (before, here) refl

  -- a fault stays the first, however many follow
  pub turn-off : (k : ℕ) (e : E) → in_turn read k ≡ Ok tt → read k ≡ Err e → (n : ℕ) → k < n → in_turn read n ≡ Err e
  turn-off k e before here zero lt = absurd (omega arith)
  turn-off k e before here (suc n) lt =
      elim (cases_lt k n) [
        | inl l ↦ (let h = turn-off k e before here n l in rw h refl)
        | inr g ↦ (let same : k ≡ n = omega arith in rw (← same) (turn-here k e before here))
      ]
