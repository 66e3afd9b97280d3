-- A selfloop layer over a well-formed generator is well formed. Assumes nothing.
use Rattle.std.specs.Prelude.{◌≡◌, ℕ, ◌<◌, ◌≤◌, Bool, true, false, ◌⊎◌, nat_lt, refl}
use Rattle.std.proofs.Common.{◌∙◌, inl, inr, arith}
use Rattle.std.proofs.lemmas.Bool.Decides.{nat_tests}
use Rattle.std.proofs.lemmas.Bool.{ltb-true, or_cases, or_parts, or_from, and_parts, cases_Bool}
use Rattle.model.specs.Generators.{Gen, WellFormed}
use Rattle.model.specs.Sets.{bit, member}
use Rattle.generators.specs.Selfloops.{loops, looped}
use Rattle.model.specs.declared.next.Next.{Next}
use Rattle.model.specs.declared.next.Next.TheVariants.{Foreign, Forbidden, To}

pub member-small : (w e : ℕ) → member w e ≡ true → e < 64
member-small w e h = ltb-true e 64 (and_parts (nat_lt e 64) (bit w e) h).0

-- outside the set nothing changes
pub loops-out : (n s : ℕ) (m : Bool) (x : Next) → m ≡ false → loops n s m x ≡ x
loops-out n s m Foreign h = grind arith
loops-out n s m Forbidden h = refl
loops-out n s m (To t) h = refl

pub loops-foreign : (n s : ℕ) (m : Bool) (x : Next) → loops n s m x ≡ Foreign → (x ≡ Foreign) × (m ≡ false)
loops-foreign n s m (To t) h = cc
loops-foreign n s m Forbidden h = cc
loops-foreign n s m Foreign h = grind arith

pub loops-to : (n s t : ℕ) (m : Bool) (x : Next) → loops n s m x ≡ To t → (x ≡ To t) ⊎ (t < n)
loops-to n s t m (To u) h = inl h
loops-to n s t m Forbidden h = cc
loops-to n s t m Foreign h = grind (arith, nat_tests)

pub loops-beyond : (n s : ℕ) (m : Bool) (x : Next) → n ≤ s → ((x ≡ Forbidden) ⊎ ((x ≡ Foreign) × (m ≡ true))) → loops n s m x ≡ Forbidden
loops-beyond n s m x h (inl k) = rw k
loops-beyond n s m x h (inr k) = grind (arith, nat_tests)

pub looped-formed : (g : Gen) (in_set : ℕ → Bool) → ((e : ℕ) → in_set e ≡ true → e < 64) → WellFormed g → WellFormed (looped g in_set)
looped-formed g in_set small f = record {
  some = f.some;
  few = f.few;
  begins = f.begins;
  events = λ e h. elim (or_cases (g.knows e) (in_set e) h) [ inl k ↦ f.events e k | inr k ↦ small e k ];
  marks = f.marks;
  foreign = λ s e h. let p = or_parts (g.knows e) (in_set e) h in loops-out g.count s (in_set e) (g.next s e) p.1 ∙ f.foreign s e p.0;
  known = λ s e h. let p = loops-foreign g.count s (in_set e) (g.next s e) h in or_from (g.knows e) (in_set e) (f.known s e p.0) p.1;
  inside = λ s e t h. elim (loops-to g.count s t (in_set e) (g.next s e) h) [ inl k ↦ f.inside s e t k | inr k ↦ k ];
  beyond = λ s e h k.
      loops-beyond g.count s (in_set e) (g.next s e) k
      (elim (cases_Bool (g.knows e)) [
        | inl b ↦ inl (f.beyond s e b k)
        | inr b ↦ inr (f.foreign s e b, grind arith)
      ]);
}
