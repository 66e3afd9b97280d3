-- The lengths of the work cells that are lent. Assumes nothing.
use Rattle.std.specs.Prelude.{length}
use Rattle.hisc.specs.Sizes.{Cells}
use Rattle.line.specs.declared.cells.Cells.{Cells as Slices}

abbrev pub lent : Slices → Cells
lent cells = record { first = length cells.first.now; second = length cells.second.now; third = length cells.third.now }
