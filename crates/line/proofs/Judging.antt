-- What a verdict says of a line that passes. Assumes nothing.
use Rattle.std.proofs.Common.{List, length, None}
use Rattle.model.specs.Generators.{Gen}
use Rattle.hisc.specs.Sizes.{Cells}
use Rattle.hisc.specs.Verdict.{Verdict, passed}
use Rattle.line.specs.Checked.{Checked}
use Rattle.walks.specs.Given.{line_given}
use Rattle.walks.specs.declared.line.Line.{Line as Given}

pub checked-of : {B : Type 0} (list : B → List Gen) (given : Given B) (cells : Cells) → Verdict (line_given list given) (length (list given.bank)) cells None → Checked list given
checked-of list given cells (passed sizes enough points) = record { sizes = sizes; points = points }
