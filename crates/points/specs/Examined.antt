-- The lengths of three slices, and the fault in a result. Assumes nothing.
use Rattle.std.specs.Prelude.{ℕ, Some, None, Ok, Err, Option, Result}
use Rattle.model.specs.declared.fault.Fault.{Fault}
use Rattle.hisc.specs.Sizes.{Cells}

abbrev pub cells_in : (first second third : ℕ) → Cells
cells_in a b c = record { first = a; second = b; third = c }

abbrev pub fault_in : Result (Unit {0}) Fault → Option Fault
fault_in (Ok u) = None
fault_in (Err f) = Some f
