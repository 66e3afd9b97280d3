-- What each make means. Assumes nothing.
use Rattle.std.specs.Prelude.{ℕ, ◌+◌, ◌-◌, ◌*◌, min, max, Bool, cond, ◌&&◌, ◌||◌, List, length, ◌==◌, nat_lt, slice_index, slice_index_or}
use Rattle.model.specs.Generators.{Gen}
use Rattle.model.specs.declared.next.Next.{Next}
use Rattle.model.specs.declared.next.Next.TheVariants.{Foreign, Forbidden, To}
use Rattle.makes.specs.Letters.{is_known, is_mark, is_up, is_down, is_step}
use Rattle.makes.specs.Shapes.{Shape, table, counter, stock}

-- Every shape means a generator, also one that no body gives. For those alone there are guards: the count is kept from 1 to 4,096,
-- the initial state below it, and the known events below 64.

abbrev pub counted : ℕ → ℕ
counted n = max 1 (min n 4096)

-- the reply about an event that is known or not, and permitted or not, and would lead to t
abbrev pub reply : (known permitted : Bool) (t : ℕ) → Next
reply known permitted t = cond known (cond permitted (To t) Forbidden) Foreign

-- a table of n states has a letter for each event, a mark for each state, and a target for each state and event, row by row;
-- a target that is no state, as 255, is no move
abbrev pub table_initial : (n i : ℕ) → ℕ
table_initial n i = cond (nat_lt i n) i 0

abbrev pub table_knows : (letters : List ℕ) (e : ℕ) → Bool
table_knows letters e = nat_lt e 64 && is_known (slice_index letters e)

abbrev pub table_marks : (n : ℕ) (marks : List ℕ) (s : ℕ) → Bool
table_marks n marks s = nat_lt s n && is_mark (slice_index marks s)

abbrev pub table_target : (letters targets : List ℕ) (s e : ℕ) → ℕ
table_target letters targets s e = slice_index_or targets (s * length letters + e) 255

abbrev pub table_next : (n : ℕ) (letters targets : List ℕ) (s e : ℕ) → Next
table_next n letters targets s e =
    reply (table_knows letters e) (nat_lt s n && nat_lt (table_target letters targets s e) n) (table_target letters targets s e)

-- a counter of n states goes up below its capacity n - 1, down above 0, or stays
abbrev pub counter_knows : (letters : List ℕ) (e : ℕ) → Bool
counter_knows letters e = nat_lt e 64 && is_step (slice_index letters e)

abbrev pub step_permitted : (n letter s : ℕ) → Bool
step_permitted n letter s = cond (is_up letter) (nat_lt (s + 1) n) (cond (is_down letter) (nat_lt 0 s && nat_lt s n) (nat_lt s n))

abbrev pub stepped : (letter s : ℕ) → ℕ
stepped letter s = cond (is_up letter) (s + 1) (cond (is_down letter) (s - 1) s)

abbrev pub counter_next : (n : ℕ) (letters : List ℕ) (s e : ℕ) → Next
counter_next n letters s e = reply (counter_knows letters e) (step_permitted n (slice_index letters e) s) (stepped (slice_index letters e) s)

-- a stock goes from 0 to 1 by an event of columns 0 and 1, and from 1 back to 0 by one of columns 2 and 3
abbrev pub is_forth : (columns : List ℕ) (e : ℕ) → Bool
is_forth columns e = e == slice_index columns 0 || e == slice_index columns 1

abbrev pub is_back : (columns : List ℕ) (e : ℕ) → Bool
is_back columns e = e == slice_index columns 2 || e == slice_index columns 3

abbrev pub stock_knows : (columns : List ℕ) (e : ℕ) → Bool
stock_knows columns e = nat_lt e 64 && (is_forth columns e || is_back columns e)

abbrev pub stock_next : (columns : List ℕ) (s e : ℕ) → Next
stock_next columns s e = reply (stock_knows columns e) ((s == 0 && is_forth columns e) || (s == 1 && is_back columns e)) (1 - s)

abbrev pub gen_of : Shape → Gen
gen_of (table n i letters marks targets) = record {
  count = counted n;
  initial = table_initial (counted n) i;
  knows = table_knows letters;
  marked = table_marks (counted n) marks;
  next = table_next (counted n) letters targets;
}
gen_of (counter c letters) = record {
  count = counted (c + 1);
  initial = 0;
  knows = counter_knows letters;
  marked = λ s. (s == 0);
  next = counter_next (counted (c + 1)) letters;
}
gen_of (stock columns) = record {
  count = 2;
  initial = 0;
  knows = stock_knows columns;
  marked = λ s. (s == 0);
  next = stock_next columns;
}
