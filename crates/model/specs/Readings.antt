-- What a reader of bytes gives. Assumes nothing.
use Rattle.std.specs.Prelude.{ℕ, zero, suc, Bool, true, false, not, Ok, Err, Result}
use Rattle.std.proofs.Math.Option.{Option, none, some}
use Rattle.model.specs.Numbers.{first}

-- a result by the meaning of its value; a refusal as it is
abbrev pub meant : {X Y E : Type 0} → (X → Y) → Result X E → Result Y E
meant f (Ok x) = Ok (f x)
meant f (Err e) = Err e

abbrev pub or_bound : ℕ → Option ℕ → ℕ
or_bound n none = n
or_bound n (some k) = k

-- the lowest place below n that does not pass, or n
unfoldable pub first_off : ℕ → (ℕ → Bool) → ℕ
first_off n passes = or_bound n (first n (λ k. not (passes k)))

-- what is read if the test holds, else the fault
abbrev pub provided : {X E : Type 0} → Bool → E → Result X E → Result X E
provided true fault reading = reading
provided false fault reading = Err fault

-- the reading that goes on with what was read, if there was no fault
abbrev pub and_then : {X Y E : Type 0} → Result X E → (X → Result Y E) → Result Y E
and_then (Ok x) more = more x
and_then (Err fault) more = Err fault

-- the readings of 0, 1 and so on below n in turn: the first fault, if there is one
abbrev pub in_turn : {X E : Type 0} → (ℕ → Result X E) → ℕ → Result (Unit {0}) E
in_turn read zero = Ok tt
in_turn read (suc n) = and_then (in_turn read n) (λ _. and_then (read n) (λ _. Ok tt))
