-- What the first three bytes of a line file, and of a chart in code, say. Assumes nothing.
use Rattle.std.specs.Prelude.{ℕ, ◌&&◌, List, length, Ok, Result, ◌==◌, nat_le, slice_index}
use Rattle.model.specs.Readings.{provided}
use Rattle.model.specs.declared.fault.Fault.{Fault}
use Rattle.model.specs.declared.fault.Fault.TheVariants.{Header as HeaderFault}

-- the meaning of a header: the number of low levels and the number of events
pub record Sizes : Type 0 where
  pub levels : ℕ
  pub events : ℕ

-- at most 60,000 bytes; byte 0 is 1, byte 1 the number of levels, 1 to 8, byte 2 the number of events, 1 to 64
abbrev pub header_reading : List ℕ → Result Sizes Fault
header_reading bytes =
    provided (nat_le (length bytes) 60000) (HeaderFault 60000)
    (provided (nat_le 3 (length bytes)) (HeaderFault (length bytes))
    (provided (slice_index bytes 0 == 1) (HeaderFault 0)
    (provided (nat_le 1 (slice_index bytes 1) && nat_le (slice_index bytes 1) 8) (HeaderFault 1)
    (provided (nat_le 1 (slice_index bytes 2) && nat_le (slice_index bytes 2) 64) (HeaderFault 2)
    (Ok (record { levels = slice_index bytes 1; events = slice_index bytes 2 }))))))
