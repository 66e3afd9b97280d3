-- What is told of a line file. Assumes nothing.
use Rattle.std.specs.Prelude.{◌≡◌, ℕ, suc, List, length, take, Some, None, Ok, Err, Result}
use Rattle.model.specs.Readings.{and_then}
use Rattle.model.specs.Charts.{EventChart}
use Rattle.model.specs.Generators.{Gen}
use Rattle.model.specs.declared.fault.Fault.{Fault}
use Rattle.linefile.specs.File.{chart_reading, bank_reading}
use Rattle.hisc.specs.Lines.{Line, line_of, high, low}
use Rattle.hisc.specs.Sizes.{Cells, size}
use Rattle.hisc.specs.Calls.{row}
use Rattle.hisc.specs.Law.{Law}
use Rattle.hisc.specs.Verdict.{Verdict as CheckAnswer}
use Rattle.verdicts.specs.declared.verdict.Verdict.{Verdict}

-- what a file means: its chart and its components
pub record FileLine : Type 0 where
  pub chart : EventChart
  pub components : List Gen

-- the line of these
abbrev pub the_line : FileLine → Line
the_line m = line_of m.chart m.components

-- the chart is read, and then every component
abbrev pub line_reading : List ℕ → Result FileLine Fault
line_reading file = and_then (chart_reading file) (λ chart. and_then (bank_reading file) (λ gens. Ok (record { chart = chart; components = gens })))

-- what is told of a file: passed, with the sizes of the high walk and of the low walks 1 to n in their order; or a fault
pub data Told : Type 0 where
  passed : (high : ℕ) (lows : List ℕ) → Told
  faulty : Fault → Told

-- what a verdict of the code tells
abbrev pub told_by : Verdict → Told
told_by v = passed v.sizes.high (take v.levels v.sizes.lows)

abbrev pub told_in : Result Verdict Fault → Told
told_in (Ok verdict) = told_by verdict
told_in (Err fault) = faulty fault

-- the sizes of the low walks 1 to n
abbrev pub low_sizes : Line → List ℕ
low_sizes l = row l.chart.levels (λ i. size l (low l (suc i)))

-- what is told of a line that passes
abbrev pub told_of : Line → Told
told_of l = passed (size l (high l)) (low_sizes l)

-- what is to be told of a line over so many components, with work cells of three lengths: the answer of the check
abbrev pub CheckedAs : Line → (components : ℕ) → Cells → Told → Type 0
CheckedAs l n cells (passed top lows) = CheckAnswer l n cells None × (top ≡ size l (high l)) × (lows ≡ low_sizes l)
CheckedAs l n cells (faulty f) = CheckAnswer l n cells (Some f)

-- what is to be told of a file, with work cells of three lengths: the fault of its reading, or else the answer of the check to the line that it means
pub data VerdictOn (file : List ℕ) (cells : Cells) : Told → Type 0 where
  -- the file cannot be read
  unread : {f : Fault} → line_reading file ≡ Err f → VerdictOn file cells (faulty f)
  -- the check refuses the line
  refused : {f : Fault} (m : FileLine) → line_reading file ≡ Ok m →
      CheckAnswer (the_line m) (length m.components) cells (Some f) → VerdictOn file cells (faulty f)
  -- the line passes
  sound : (m : FileLine) → line_reading file ≡ Ok m →
      CheckAnswer (the_line m) (length m.components) cells None →
      VerdictOn file cells (passed (size (the_line m) (high (the_line m))) (low_sizes (the_line m)))

-- of each file one thing at most is to be told
abbrev pub OneTold : Type 0
OneTold = (file : List ℕ) (cells : Cells) (r s : Told) → VerdictOn file cells r → VerdictOn file cells s → r ≡ s

-- the line that a file means keeps the law over every queue of calls
abbrev pub KeepsLaw : List ℕ → Type 0
KeepsLaw file = (m : FileLine) → line_reading file ≡ Ok m → Law (the_line m)

-- where the verdict is passed, it does
abbrev pub PassedKeepsLaw : List ℕ → Told → Type 0
PassedKeepsLaw file (passed top lows) = KeepsLaw file
PassedKeepsLaw file (faulty f) = Unit {0}
