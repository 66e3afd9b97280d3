-- The list of events that pass a test, written to the front of a slice. Assumes nothing.
use Rattle.std.proofs.Common.{◌≡◌, ℕ, ◌+◌, ◌<◌, ◌≤◌, Bool, true, false, cond, List, [], ◌∷◌, ◌++◌, length, take, drop, set, sym, refl, ap, ◌∙◌, append-nil, add-one, arith}
use Rattle.std.proofs.lemmas.List.{take_more_set, drop-drop, drop-set-lt}
use Rattle.hisc.specs.Calls.{passing}

-- the numbers below n that pass stand in the first k places, and from k on the slice is as it was
pub record Listing (p : ℕ → Bool) (before after : List ℕ) (k n : ℕ) : Type 0 where
  pub few : k ≤ n
  pub front : take k after ≡ passing n p
  pub rest : drop k after ≡ drop k before

pub listing_none : (p : ℕ → Bool) (before : List ℕ) → Listing p before before 0 0
listing_none p before = record { few = omega arith; front = refl; rest = refl }

pub listing-skip : (p : ℕ → Bool) (before after : List ℕ) (k n : ℕ) → p n ≡ false → Listing p before after k n → Listing p before after k (n + 1)
listing-skip p before after k n f i = record {
  few = omega (arith, i.few);
  front = i.front ∙ sym (append-nil (passing n p)) ∙ sym (ap (λ (b : Bool). passing n p ++ cond b (n ∷ []) []) f) ∙ sym (ap (λ (m : ℕ). passing m p) (add-one n));
  rest = i.rest;
}

pub listing-put : (p : ℕ → Bool) (before after : List ℕ) (k n : ℕ) → p n ≡ true → k < length after → Listing p before after k n → Listing p before (set after k n) (k + 1) (n + 1)
listing-put p before after k n t lt i = record {
  few = omega (arith, i.few);
  front = take_more_set after k n lt ∙ ap (λ (w : List ℕ). w ++ (n ∷ [])) i.front ∙ sym (ap (λ (b : Bool). passing n p ++ cond b (n ∷ []) []) t) ∙ sym (ap (λ (m : ℕ). passing m p) (add-one n));
  rest = drop-set-lt (k + 1) after k n (omega arith) ∙ sym (drop-drop 1 k after) ∙ ap (drop 1) i.rest ∙ drop-drop 1 k before;
}
