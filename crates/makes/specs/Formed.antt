-- Every make means a well-formed generator. Assumes nothing.
use Rattle.std.specs.Prelude.{◌≡◌, ℕ, ◌+◌, ◌-◌, ◌<◌, ◌≤◌, Bool, true, false, cond, ◌&&◌, ◌||◌, ◌==◌, ◌≢◌, nat_lt, slice_index}
use Rattle.std.proofs.Common.{arith}
use Rattle.std.proofs.lemmas.Bool.Decides.{nat_tests}
use Rattle.std.proofs.lemmas.Bool.{eqb-true}
use Rattle.model.specs.Generators.{WellFormed}
use Rattle.model.specs.declared.next.Next.TheVariants.{Foreign, Forbidden, To}
use Rattle.makes.specs.Letters.{is_known, is_step}
use Rattle.makes.specs.Shapes.{Shape, table, counter, stock}
use Rattle.makes.specs.Meanings.{counted, reply, table_target, step_permitted, stepped, is_forth, is_back, gen_of}

reply-foreign : (known permitted : Bool) (t : ℕ) → reply known permitted t ≡ Foreign → known ≡ false
reply-foreign known permitted t h = grind arith

reply-to : (known permitted : Bool) (t u : ℕ) → reply known permitted t ≡ To u → (permitted ≡ true) × (t ≡ u)
reply-to known permitted t u h = grind arith

reply-forbidden : (known permitted : Bool) (t : ℕ) → known ≡ true → (permitted ≢ true) → reply known permitted t ≡ Forbidden
reply-forbidden known permitted t h off = grind arith

-- a generator whose permitted moves lead from a state to a state
moving : (count initial : ℕ) (knows marked : ℕ → Bool) (permitted : ℕ → ℕ → Bool) (to : ℕ → ℕ → ℕ) →
    1 ≤ count → count ≤ 4096 → initial < count →
    ((e : ℕ) → knows e ≡ true → e < 64) →
    ((s : ℕ) → marked s ≡ true → s < count) →
    ((s e : ℕ) → permitted s e ≡ true → (s < count) × (to s e < count)) →
    WellFormed (record { count = count; initial = initial; knows = knows; marked = marked; next = λ s e. reply (knows e) (permitted s e) (to s e) })
moving count initial knows marked permitted to one few begins events marks stays = record {
  some = one;
  few = few;
  begins = begins;
  events = events;
  marks = marks;
  foreign = λ s e h. rw h;
  known = λ s e h. reply-foreign (knows e) (permitted s e) (to s e) h;
  inside = λ s e t h. let p = reply-to (knows e) (permitted s e) (to s e) t h in omega (arith, p.1, (stays s e p.0).1);
  beyond = λ s e h k. reply-forbidden (knows e) (permitted s e) (to s e) h (λ p. omega (arith, (stays s e p).0));
}

event-small : (e : ℕ) (b : Bool) → (nat_lt e 64 && b) ≡ true → e < 64
event-small e b h = grind (arith, nat_tests)

start-below : (i n : ℕ) → 1 ≤ n → cond (nat_lt i n) i 0 < n
start-below i n h = grind (arith, nat_tests)

step-inside : (n l s : ℕ) → step_permitted n l s ≡ true → (s < n) × (stepped l s < n)
step-inside n l s h = grind (arith, nat_tests)

pub formed : (s : Shape) → WellFormed (gen_of s)
formed (table n i letters marks targets) =
    moving _ _ _ _ (λ s e. nat_lt s (counted n) && nat_lt (table_target letters targets s e) (counted n)) (λ s e. table_target letters targets s e)
    (omega arith) (omega arith) (start-below i (counted n) (omega arith))
    (λ e h. event-small e (is_known (slice_index letters e)) h)
    (λ s h. (grind (arith, nat_tests)))
    (λ s e h. grind (arith, nat_tests))
formed (counter c letters) =
    moving _ _ _ _ (λ s e. step_permitted (counted (c + 1)) (slice_index letters e) s) (λ s e. stepped (slice_index letters e) s)
    (omega arith) (omega arith) (omega arith)
    (λ e h. event-small e (is_step (slice_index letters e)) h)
    (λ s h. omega (arith, eqb-true s 0 h))
    (λ s e h. step-inside (counted (c + 1)) (slice_index letters e) s h)
formed (stock columns) =
    moving _ _ _ _ (λ s e. (s == 0 && is_forth columns e) || (s == 1 && is_back columns e)) (λ s e. 1 - s)
    (omega arith) (omega arith) (omega arith)
    (λ e h. event-small e (is_forth columns e || is_back columns e) h)
    (λ s h. omega (arith, eqb-true s 0 h))
    (λ s e h. grind (arith, nat_tests))
