-- A generator that goes round three states by three events. Assumes nothing.
use Rattle.std.specs.Prelude.{◌≡◌, ℕ, ◌<◌, ◌≤◌, Bool, true, false, cond, ◌&&◌, ◌||◌, ◌==◌, ◌≢◌, nat_lt, refl}
use Rattle.std.proofs.Common.{arith}
use Rattle.std.proofs.lemmas.Bool.{ltb-true, eqb-true, ne_eqb, and_parts}
use Rattle.model.specs.Generators.{Gen, WellFormed}
use Rattle.model.specs.declared.next.Next.{Next}
use Rattle.model.specs.declared.next.Next.TheVariants.{Foreign, Forbidden, To}

abbrev pub cycle_knows : (a b c e : ℕ) → Bool
cycle_knows a b c e = nat_lt e 64 && (e == a || (e == b || e == c))

-- from state 0 by a, from 1 by b, from 2 by c
abbrev pub cycle_move : (a b c s e : ℕ) → Next
cycle_move a b c s e =
    cond (s == 0 && e == a) (To 1) (cond (s == 1 && e == b) (To 2) (cond (s == 2 && e == c) (To 0) Forbidden))

abbrev pub cycle_next : (a b c s e : ℕ) → Next
cycle_next a b c s e = cond (cycle_knows a b c e) (cycle_move a b c s e) Foreign

abbrev pub cycle : (a b c : ℕ) → Gen
cycle a b c = record {
  count = 3;
  initial = 0;
  knows = cycle_knows a b c;
  marked = λ s. (s == 0);
  next = cycle_next a b c;
}

-- no move of a cycle is foreign, and each leads from a state to a state
moved : (x y z : Bool) → cond x (To 1) (cond y (To 2) (cond z (To 0) Forbidden)) ≢ Foreign
moved true y z h = cc
moved false true z h = cc
moved false false true h = cc
moved false false false h = cc

target_below : (x y z : Bool) (t : ℕ) → cond x (To 1) (cond y (To 2) (cond z (To 0) Forbidden)) ≡ To t → t < 3
target_below true y z t h = let k : ◌≡◌ {A = ℕ} 1 t = cc in omega arith
target_below false true z t h = let k : ◌≡◌ {A = ℕ} 2 t = cc in omega arith
target_below false false true t h = let k : ◌≡◌ {A = ℕ} 0 t = cc in omega arith
target_below false false false t h = absurd cc

known_by : (k : Bool) (x : Next) → (x ≢ Foreign) → cond k x Foreign ≡ Foreign → k ≡ false
known_by true x off h = absurd (off h)
known_by false x off h = refl

inside-by : (k : Bool) (x : Next) (t : ℕ) → (x ≡ To t → t < 3) → cond k x Foreign ≡ To t → t < 3
inside-by true x t below h = below h
inside-by false x t below h = absurd cc

still : (a b c s e : ℕ) → 3 ≤ s → cycle_move a b c s e ≡ Forbidden
still a b c s e h =
    let x = ne_eqb s 0 (λ k. omega arith) in
    let y = ne_eqb s 1 (λ k. omega arith) in
    let z = ne_eqb s 2 (λ k. omega arith) in
    rw (x, y, z)

pub cycle-formed : (a b c : ℕ) → WellFormed (cycle a b c)
cycle-formed a b c = record {
  some = omega arith;
  few = omega arith;
  begins = omega arith;
  events = λ e h. ltb-true e 64 (and_parts (nat_lt e 64) (e == a || (e == b || e == c)) h).0;
  marks = λ s h. omega (arith, eqb-true s 0 h);
  foreign = λ s e h. rw h;
  known = λ s e h. known_by (cycle_knows a b c e) (cycle_move a b c s e) (moved (s == 0 && e == a) (s == 1 && e == b) (s == 2 && e == c)) h;
  inside = λ s e t h. inside-by (cycle_knows a b c e) (cycle_move a b c s e) t (target_below (s == 0 && e == a) (s == 1 && e == b) (s == 2 && e == c) t) h;
  beyond = λ s e h k. let m = still a b c s e k in rw (h, m);
}
