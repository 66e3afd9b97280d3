-- What a make holds, and the parts of a body. Assumes nothing.
use Rattle.std.specs.Prelude.{ℕ, ◌+◌, cond, List, [], ◌∷◌, take, drop, slice_index, slice_index_or}
use Rattle.makes.specs.declared.make.Make.{Make}
use Rattle.makes.specs.declared.make.Make.TheVariants.{Table, Counter, Stock}
use Rattle.makes.specs.Letters.{is_table, is_counter}

-- what a make holds, as lists of bytes
pub data Shape : Type 0 where
  table : (count initial : ℕ) (letters marks targets : List ℕ) → Shape
  counter : (capacity : ℕ) (letters : List ℕ) → Shape
  stock : (columns : List ℕ) → Shape

abbrev pub shape : Make → Shape
shape (Table n i letters marks targets) = table n i letters.now marks.now targets.now
shape (Counter n letters) = counter n letters.now
shape (Stock columns) = stock columns

-- the parts of a body, over E events. Where bytes are missing, a number is 0, a list is shorter, and a column is 255.

-- letter, count, initial state, E letters, a mark for each state, E targets for each state
abbrev pub table_in : (E : ℕ) → List ℕ → Shape
table_in E body =
    table (slice_index body 1) (slice_index body 2) (take E (drop 3 body)) (take (slice_index body 1) (drop (3 + E) body)) (drop (3 + E + slice_index body 1) body)

-- letter, capacity, E letters
abbrev pub counter_in : List ℕ → Shape
counter_in body = counter (slice_index body 1) (drop 2 body)

-- letter, 0, four columns
abbrev pub stock_in : List ℕ → Shape
stock_in body = stock (slice_index_or body 2 255 ∷ (slice_index_or body 3 255 ∷ (slice_index_or body 4 255 ∷ (slice_index_or body 5 255 ∷ []))))

-- by the letter; one of no make is a stock's
unfoldable pub shape_in : (E : ℕ) → List ℕ → Shape
shape_in E body = cond (is_table (slice_index body 0)) (table_in E body) (cond (is_counter (slice_index body 0)) (counter_in body) (stock_in body))
