-- Which bytes a body may have, and what its reader gives. Assumes nothing.
use Rattle.std.specs.Prelude.{ℕ, ◌+◌, ◌-◌, ◌*◌, ◌%◌, Bool, cond, not, ◌&&◌, ◌||◌, List, length, Ok, Option, Result, ◌==◌, nat_eq, nat_le, nat_lt, slice_index, slice_index_or}
use Rattle.model.specs.Numbers.{any, all}
use Rattle.model.specs.Readings.{first_off, provided}
use Rattle.model.specs.declared.fault.Fault.{Fault}
use Rattle.model.specs.declared.fault.Fault.TheVariants.{Body}
use Rattle.makes.specs.Letters.{is_table, is_counter, is_stock, is_not, is_known, is_mark, is_step, is_none}
use Rattle.makes.specs.Shapes.{Shape, shape_in}

-- a target is a state or 255, and 255 where the event is not known
abbrev pub target_fits : (count letter target : ℕ) → Bool
target_fits n letter t = is_none t || (is_known letter && nat_lt t n)

-- a column is 255, or an event that no earlier column has; the columns begin at place 2
abbrev pub column_fits : (E : ℕ) → List ℕ → ℕ → Bool
column_fits E body i =
    is_none (slice_index body i) || (nat_lt (slice_index body i) E && not (any (i - 2) (λ k. nat_eq (slice_index body (2 + k)) (slice_index body i))))

-- the byte at place i is one that the make may have there; past the make's size none is

-- letter, count, initial state, letters, marks, targets row by row
abbrev pub table_fits : (E : ℕ) → List ℕ → ℕ → Bool
table_fits E body i =
    let b : ℕ = slice_index_or body i 0 in
    let n : ℕ = slice_index_or body 1 0 in
    cond (i == 0) (is_table b)
    (cond (i == 1) (nat_le 1 b && nat_le b 200)
    (cond (i == 2) (nat_lt b n)
    (cond (nat_lt i (3 + E)) (is_known b || is_not b)
    (cond (nat_lt i (3 + E + n)) (is_mark b || is_not b)
    (nat_lt i (3 + E + n + n * E) && target_fits n (slice_index body (3 + (i - (3 + E + n)) % E)) b)))))

-- letter, capacity, letters
abbrev pub counter_fits : (E : ℕ) → List ℕ → ℕ → Bool
counter_fits E body i =
    let b : ℕ = slice_index_or body i 0 in
    cond (i == 0) (is_counter b) (cond (i == 1) (nat_le 1 b && nat_le b 199) (nat_lt i (2 + E) && (is_not b || is_step b)))

-- letter, 0, columns
abbrev pub stock_fits : (E : ℕ) → List ℕ → ℕ → Bool
stock_fits E body i =
    let b : ℕ = slice_index_or body i 0 in
    cond (i == 0) (is_stock b) (cond (i == 1) (b == 0) (nat_lt i 6 && column_fits E body i))

-- the byte at place i is one that the body's make may have there; with a letter of no make none is
unfoldable pub body_fits : (E : ℕ) → List ℕ → ℕ → Bool
body_fits E body i =
    let m : ℕ = slice_index_or body 0 0 in
    cond (is_table m) (table_fits E body i) (cond (is_counter m) (counter_fits E body i) (is_stock m && stock_fits E body i))

-- how many bytes a body of its make has; with a letter of no make, as many as a stock's
abbrev pub body_size : (E : ℕ) → List ℕ → ℕ
body_size E body =
    let n : ℕ = slice_index_or body 1 0 in
    cond (is_table (slice_index body 0)) (3 + E + n + n * E) (cond (is_counter (slice_index body 0)) (2 + E) 6)

-- the first place where the body departs from its make, or its end
abbrev pub departure : (E : ℕ) → List ℕ → ℕ
departure E body = first_off (length body) (body_fits E body)

-- the body has all bytes of its make and no other
abbrev pub is_whole : (E : ℕ) → List ℕ → Bool
is_whole E body = all (length body) (body_fits E body) && length body == body_size E body

-- the parts of the body of a component, which begins at a place of its file; or the fault, with the place where it departs
unfoldable pub body_reading : (component : Option ℕ) (origin E : ℕ) → List ℕ → Result Shape Fault
body_reading component origin E body = provided (is_whole E body) (Body component (origin + departure E body)) (Ok (shape_in E body))
