-- The bodies of the components, one after the other. Assumes nothing.
use Rattle.std.proofs.Common.{◌≡◌, ℕ, ◌+◌, ◌<◌, ◌≤◌, List, [], length, get_or, Some, Ok, sym, refl, ap, ◌∙◌, add-one, arith, Bor}
use Rattle.model.specs.Components.{components}
use Rattle.model.specs.Readings.{in_turn}
use Rattle.model.proofs.Turns.{turn_on}
use Rattle.makes.specs.Shapes.{Shape}
use Rattle.makes.specs.Bodies.{body_reading}
use Rattle.linefile.specs.Layout.{rows, row_length, body_start, body_of}
use Rattle.linefile.specs.File.{component_reading}
use Rattle.linefile.specs.declared.contents.Contents.{Contents}
use Rattle.linefile.proofs.Rows.{row-right, row_ends, body-length}
use Rattle.linefile.proofs.Banked.{text_at}

-- what an array of references is read by past its end
abbrev pub nowhere : Bor (List ℕ)
nowhere = record { ref_ptr = (0, 0); now = [] }

module _ (k : Contents) (many : length k.bodies ≡ 27) where
  abbrev pub n : ℕ
  n = k.header.levels

  abbrev pub file : List ℕ
  file = k.file.now

  -- the body of a row, where it lies
  pub body_is : (r : ℕ) → r < rows n → (get_or k.bodies r nowhere).now ≡ body_of n file r
  body_is r lt = sym (text_at k.bodies r nowhere (omega (arith, many, k.header.sizes.1))) ∙ k.found r lt

  pub body-size : (r : ℕ) → r < rows n → length (get_or k.bodies r nowhere).now ≡ row_length file r
  body-size r lt = ap length (body_is r lt) ∙ body-length n file r (row-right n file k.right r lt)

  -- where the next body begins
  pub start-next : (r : ℕ) → r < rows n → body_start n file r + row_length file r ≤ length file
  start-next r lt = row_ends n file r (row-right n file k.right r lt)

  -- the start of a component's body lies within the file
  pub start-below : (c start : ℕ) → c < components n → start ≡ body_start n file (c + 1) → start ≤ length file
  start-below c start lt a =
      let s : body_start n file (c + 1) ≡ body_start n file c + row_length file c = rw (add-one c) refl in
      let h = start-next c (omega arith) in
      omega (arith, a, s, h)

  -- what is read of the next body, the component's
  module _ (c i start : ℕ) (lt : c < components n) (next : i ≡ c) (at : start ≡ body_start n file (c + 1)) where
    pub component-told : (E : ℕ) → E ≡ k.header.events →
        body_reading (Some c) start E (get_or k.bodies (i + 1) nowhere).now ≡ component_reading n k.header.events file c
    component-told E e = let b = body_is (c + 1) (omega arith) in rw (next, e, b, at, add-one c) refl

    pub start-moves : start + length (get_or k.bodies (i + 1) nowhere).now ≡ body_start n file (c + 1 + 1)
    start-moves = let z = body-size (c + 1) (omega arith) in rw (next, z, at, add-one (c + 1)) refl

    pub start-within : start + length (get_or k.bodies (i + 1) nowhere).now ≤ length file
    start-within = let z = body-size (c + 1) (omega arith) in let h = start-next (c + 1) (omega arith) in rw (next, z, at) h

  pub component-on : (E c : ℕ) (s : Shape) → in_turn (component_reading n E file) c ≡ Ok tt → component_reading n E file c ≡ Ok s → in_turn (component_reading n E file) (c + 1) ≡ Ok tt
  component-on E c s before here = rw (add-one c) (turn_on (component_reading n E file) c s before here)
