-- From the readings of a file to what is told of it. Assumes nothing.
use Rattle.std.proofs.Common.{◌≡◌, ℕ, List, length, Ok, Err}
use Rattle.model.specs.Charts.{EventChart}
use Rattle.model.specs.Generators.{Gen}
use Rattle.model.specs.declared.fault.Fault.{Fault}
use Rattle.linefile.specs.File.{chart_reading, bank_reading}
use Rattle.hisc.specs.Sizes.{Cells}
use Rattle.verdicts.specs.Verdicts.{FileLine, the_line, line_reading, Told, passed, faulty, CheckedAs, VerdictOn, refused, sound}

module _ (file : List ℕ) where
  pub chart-unread : (f : Fault) → chart_reading file ≡ Err f → line_reading file ≡ Err f
  chart-unread f h = cc

  module _ (chart : EventChart) (read : chart_reading file ≡ Ok chart) where
    pub bank-unread : (f : Fault) → bank_reading file ≡ Err f → line_reading file ≡ Err f
    bank-unread f h = cc

    pub line_read : (gens : List Gen) → bank_reading file ≡ Ok gens → line_reading file ≡ Ok (record { chart = chart; components = gens })
    line_read gens h = cc

  module _ (m : FileLine) (read : line_reading file ≡ Ok m) (cells : Cells) where
    pub told-so : (t : Told) → CheckedAs (the_line m) (length m.components) cells t → VerdictOn file cells t
    told-so (passed top lows) h = rw (h.1, h.2) (sound m read h.0)
    told-so (faulty f) h = refused m read h
