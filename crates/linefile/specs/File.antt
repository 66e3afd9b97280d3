-- What a line file means: its chart, and the list of its components. Assumes nothing.
use Rattle.std.specs.Prelude.{ℕ, suc, List, map, Some, Ok, Result}
use Rattle.std.specs.List.{range_with_len}
use Rattle.model.specs.Charts.{EventChart}
use Rattle.model.specs.Components.{components}
use Rattle.model.specs.Generators.{Gen}
use Rattle.model.specs.Readings.{and_then, in_turn}
use Rattle.model.specs.declared.fault.Fault.{Fault}
use Rattle.charts.specs.Headers.{Sizes, header_reading}
use Rattle.charts.specs.Rows.{rows_reading}
use Rattle.makes.specs.Shapes.{Shape}
use Rattle.makes.specs.Bodies.{body_reading}
use Rattle.linefile.specs.Layout.{contents_end, body_start, body_of, contents_reading}
use Rattle.linefile.specs.Bank.{component_in}

-- the sizes of a file whose header and contents are right
unfoldable pub opened : List ℕ → Result Sizes Fault
opened file = and_then (header_reading file) (λ sizes. and_then (contents_reading sizes.levels sizes.events file) (λ _. Ok sizes))

-- the event body of a file of these sizes
abbrev pub event_reading : Sizes → List ℕ → Result EventChart Fault
event_reading sizes file = rows_reading sizes.levels sizes.events (body_of sizes.levels file 0) (contents_end sizes.levels)

-- the chart of a file: header, contents, and then the event body
unfoldable pub chart_reading : List ℕ → Result EventChart Fault
chart_reading file =
    and_then (header_reading file) (λ sizes.
    and_then (contents_reading sizes.levels sizes.events file) (λ _.
    rows_reading sizes.levels sizes.events (body_of sizes.levels file 0) (contents_end sizes.levels)))

-- the body of component c
abbrev pub component_reading : (n E : ℕ) → List ℕ → ℕ → Result Shape Fault
component_reading n E file c = body_reading (Some c) (body_start n file (suc c)) E (body_of n file (suc c))

-- the components of a file: its chart, and then the bodies in turn
unfoldable pub bank_reading : List ℕ → Result (List Gen) Fault
bank_reading file =
    and_then (chart_reading file) (λ chart.
    and_then (in_turn (component_reading chart.levels chart.events file) (components chart.levels)) (λ _.
    Ok (map (λ c. component_in chart c (body_of chart.levels file (suc c))) (range_with_len 0 (components chart.levels)))))
