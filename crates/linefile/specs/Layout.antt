-- Where the parts of a line file stand: three bytes, contents rows of four bytes, and the bodies back to back to the file's end. Assumes nothing.
use Rattle.std.specs.Prelude.{◌≡◌, ℕ, zero, suc, ◌+◌, ◌*◌, ◌<◌, List, [], map, length, take, drop, Ok, Result, ◌==◌, nat_le, slice_index, slice_index_or}
use Rattle.std.specs.Borrow.{Bor}
use Rattle.model.specs.Components.{components}
use Rattle.model.specs.Readings.{provided, and_then, in_turn}
use Rattle.model.specs.declared.fault.Fault.{Fault}
use Rattle.model.specs.declared.fault.Fault.TheVariants.{Contents}

-- the contents rows of a line of n levels: the event body, then the components
abbrev pub rows : ℕ → ℕ
rows n = 1 + components n

-- where the contents end, and the first body begins
abbrev pub contents_end : ℕ → ℕ
contents_end n = 3 + 4 * rows n

-- the start and the length that contents row r gives, high byte first
abbrev pub row_start : List ℕ → ℕ → ℕ
row_start file r = 256 * slice_index file (3 + 4 * r) + slice_index file (3 + 4 * r + 1)

abbrev pub row_length : List ℕ → ℕ → ℕ
row_length file r = 256 * slice_index file (3 + 4 * r + 2) + slice_index file (3 + 4 * r + 3)

-- where the body of row r has to begin: behind the contents and the bodies before it
abbrev pub body_start : (n : ℕ) → List ℕ → ℕ → ℕ
body_start n file zero = contents_end n
body_start n file (suc r) = body_start n file r + row_length file r

-- the body of row r
abbrev pub body_of : (n : ℕ) → List ℕ → ℕ → List ℕ
body_of n file r = take (row_length file r) (drop (body_start n file r) file)

-- row r gives the right start, and its body ends within the file; its place is its first byte, or its third
abbrev pub row_reading : (n : ℕ) → List ℕ → ℕ → Result (Unit {0}) Fault
row_reading n file r =
    provided (row_start file r == body_start n file r) (Contents (3 + 4 * r))
    (provided (nat_le (body_start n file r + row_length file r) (length file)) (Contents (3 + 4 * r + 2))
    (Ok tt))

-- the contents of a file of n levels and E events: whole, every row right, the event body 3E long, and no byte behind the last body
unfoldable pub contents_reading : (n E : ℕ) → List ℕ → Result (Unit {0}) Fault
contents_reading n E file =
    provided (nat_le (contents_end n) (length file)) (Contents (length file))
    (and_then (in_turn (row_reading n file) (rows n)) (λ _.
    provided (row_length file 0 == 3 * E) (Contents 5)
    (provided (body_start n file (rows n) == length file) (Contents (body_start n file (rows n)))
    (Ok tt))))

-- what stands behind the references of an array
abbrev pub texts : List (Bor (List ℕ)) → List (List ℕ)
texts refs = map (λ (r : Bor (List ℕ)). r.now) refs

-- the bodies of all rows, in their order
abbrev pub Found : (n : ℕ) → List ℕ → List (List ℕ) → Type 0
Found n file bodies = (r : ℕ) → r < rows n → slice_index_or bodies r [] ≡ body_of n file r
