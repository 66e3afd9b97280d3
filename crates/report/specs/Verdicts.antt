-- What is told of a line file. Assumes nothing.
use Rattle.std.specs.Prelude.{ℕ, List, Ok, Result}
use Rattle.model.specs.Readings.{and_then}
use Rattle.model.specs.declared.fault.Fault.{Fault}
use Rattle.linefile.specs.File.{chart_reading, bank_reading}
use Rattle.report.specs.declared.verdict.Verdict.{Verdict}

-- the number of levels and of events, if the chart and every component can be read, or the first fault
abbrev pub verdict_on : List ℕ → Result Verdict Fault
verdict_on file =
    and_then (chart_reading file) (λ chart. and_then (bank_reading file) (λ _. Ok (record { levels = chart.levels; events = chart.events })))
