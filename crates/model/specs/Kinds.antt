-- The letters of the kinds of events. Assumes nothing.
use Rattle.std.specs.Prelude.{ℕ, Bool, cond, ◌||◌, Ok, Result, ◌==◌}
use Rattle.model.specs.Readings.{provided}
use Rattle.model.specs.declared.kind.Kind.{Kind}
use Rattle.model.specs.declared.kind.Kind.TheVariants.{High, Low, Request, Answer}
use Rattle.model.specs.declared.kind.UnknownKind.{UnknownKind}

-- the kind letters are H (72), L (76), R (82) and A (65)
abbrev pub is_kind : ℕ → Bool
is_kind letter = letter == 72 || (letter == 76 || (letter == 82 || letter == 65))

abbrev pub kind_of : ℕ → Kind
kind_of letter = cond (letter == 72) High (cond (letter == 82) Request (cond (letter == 65) Answer Low))

-- the kind of the letter, or its refusal
abbrev pub kind_reading : ℕ → Result Kind UnknownKind
kind_reading letter = provided (is_kind letter) (record {}) (Ok (kind_of letter))
