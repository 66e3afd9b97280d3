-- What a body that was read means, byte by byte. Assumes nothing.
use Rattle.std.specs.Prelude.{◌≡◌, ℕ, ◌+◌, ◌*◌, ◌<◌, ◌≤◌, true, false, not, ◌≢◌, List, Ok, Option, ◌==◌, slice_index}
use Rattle.model.specs.Generators.{Gen}
use Rattle.model.specs.declared.next.Next.TheVariants.{Forbidden, To}
use Rattle.makes.specs.Letters.{is_table, is_counter, is_stock, is_not, is_known, is_mark, is_up, is_down, is_stay}
use Rattle.makes.specs.Shapes.{Shape}
use Rattle.makes.specs.Bodies.{body_reading}
use Rattle.makes.specs.Meanings.{gen_of}

module _ (E : ℕ) (body : List ℕ) where
  -- the bytes of a table's body: count, initial state, the letter of event e, the mark of state s, the target of both
  abbrev pub count_byte : ℕ
  count_byte = slice_index body 1

  abbrev pub initial_byte : ℕ
  initial_byte = slice_index body 2

  abbrev pub letter_byte : ℕ → ℕ
  letter_byte e = slice_index body (3 + e)

  abbrev pub mark_byte : ℕ → ℕ
  mark_byte s = slice_index body (3 + E + s)

  abbrev pub target_byte : ℕ → ℕ → ℕ
  target_byte s e = slice_index body (3 + E + count_byte + (s * E + e))

  -- the bytes of a counter's body: capacity, the letter of event e
  abbrev pub capacity_byte : ℕ
  capacity_byte = slice_index body 1

  abbrev pub step_byte : ℕ → ℕ
  step_byte e = slice_index body (2 + e)

  -- the bytes of a stock's body: column k
  abbrev pub column_byte : ℕ → ℕ
  column_byte k = slice_index body (2 + k)

  module _ (g : Gen) where
    -- g is what a table's bytes say; no event but those with a letter is known
    pub record TablePlain : Type 0 where
      pub count : g.count ≡ count_byte
      pub initial : g.initial ≡ initial_byte
      pub knows : (e : ℕ) → e < E → g.knows e ≡ is_known (letter_byte e)
      pub others : (e : ℕ) → E ≤ e → g.knows e ≡ false
      pub marked : (s : ℕ) → s < count_byte → g.marked s ≡ is_mark (mark_byte s)
      pub moves : (s e : ℕ) → s < count_byte → e < E → target_byte s e ≢ 255 → g.next s e ≡ To (target_byte s e)
      pub stops : (s e : ℕ) → s < count_byte → e < E → target_byte s e ≡ 255 → g.knows e ≡ true → g.next s e ≡ Forbidden

    -- g is what a counter's bytes say: it is full at the capacity, and empty at 0
    pub record CounterPlain : Type 0 where
      pub count : g.count ≡ capacity_byte + 1
      pub initial : g.initial ≡ 0
      pub knows : (e : ℕ) → e < E → g.knows e ≡ not (is_not (step_byte e))
      pub others : (e : ℕ) → E ≤ e → g.knows e ≡ false
      pub marked : (s : ℕ) → g.marked s ≡ (s == 0)
      pub up : (s e : ℕ) → e < E → is_up (step_byte e) ≡ true → s < capacity_byte → g.next s e ≡ To (s + 1)
      pub full : (e : ℕ) → e < E → is_up (step_byte e) ≡ true → g.next capacity_byte e ≡ Forbidden
      pub down : (s e : ℕ) → e < E → is_down (step_byte e) ≡ true → s < capacity_byte → g.next (s + 1) e ≡ To s
      pub empty : (e : ℕ) → e < E → is_down (step_byte e) ≡ true → g.next 0 e ≡ Forbidden
      pub stays : (s e : ℕ) → e < E → is_stay (step_byte e) ≡ true → s ≤ capacity_byte → g.next s e ≡ To s

    -- g is what a stock's bytes say: columns 0 and 1 lead forth, columns 2 and 3 back, and no other event is known
    pub record StockPlain : Type 0 where
      pub count : g.count ≡ 2
      pub initial : g.initial ≡ 0
      pub others : (e : ℕ) → ((k : ℕ) → k < 4 → column_byte k ≢ e) → g.knows e ≡ false
      pub marked : (s : ℕ) → g.marked s ≡ (s == 0)
      pub forth : (k : ℕ) → k < 2 → column_byte k ≢ 255 → (g.next 0 (column_byte k) ≡ To 1) × (g.next 1 (column_byte k) ≡ Forbidden)
      pub back : (k : ℕ) → 2 ≤ k → k < 4 → column_byte k ≢ 255 → (g.next 1 (column_byte k) ≡ To 0) × (g.next 0 (column_byte k) ≡ Forbidden)

-- the meaning of a body that is read, with at most 64 events, is what its bytes say: no guard of the meaning is at work
abbrev pub Tables-plain : Type 0
Tables-plain = (component : Option ℕ) (origin E : ℕ) (body : List ℕ) (s : Shape) →
    E ≤ 64 → body_reading component origin E body ≡ Ok s → is_table (slice_index body 0) ≡ true → TablePlain E body (gen_of s)

abbrev pub Counters-plain : Type 0
Counters-plain = (component : Option ℕ) (origin E : ℕ) (body : List ℕ) (s : Shape) →
    E ≤ 64 → body_reading component origin E body ≡ Ok s → is_counter (slice_index body 0) ≡ true → CounterPlain E body (gen_of s)

abbrev pub Stocks-plain : Type 0
Stocks-plain = (component : Option ℕ) (origin E : ℕ) (body : List ℕ) (s : Shape) →
    E ≤ 64 → body_reading component origin E body ≡ Ok s → is_stock (slice_index body 0) ≡ true → StockPlain E body (gen_of s)
