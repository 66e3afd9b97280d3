-- A generator under a selfloop layer. Assumes nothing.
use Rattle.std.specs.Prelude.{ℕ, Bool, cond, ◌||◌, nat_lt}
use Rattle.model.specs.Generators.{Gen}
use Rattle.model.specs.declared.next.Next.{Next}
use Rattle.model.specs.declared.next.Next.TheVariants.{Foreign, Forbidden, To}

-- what the layer replies where the generator below replies the last argument: an event of the set that is foreign there
-- leaves a state below the count as it is
abbrev pub loops : (count state : ℕ) → (in_set : Bool) → Next → Next
loops n s m Foreign = cond m (cond (nat_lt s n) (To s) Forbidden) Foreign
loops n s m Forbidden = Forbidden
loops n s m (To t) = To t

-- the generator g with selfloops of the events that the set tells
abbrev pub looped : Gen → (ℕ → Bool) → Gen
looped g in_set = record {
  count = g.count;
  initial = g.initial;
  knows = λ e. g.knows e || in_set e;
  marked = g.marked;
  next = λ s e. loops g.count s (in_set e) (g.next s e);
}
