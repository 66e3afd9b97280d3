-- The bank of a line file. Assumes nothing.
use Rattle.std.specs.Prelude.{ℕ, zero, suc, ◌+◌, Bool, cond, not, ◌&&◌, List, [], map, slice_index_or}
use Rattle.std.specs.List.{range_with_len}
use Rattle.model.specs.Charts.{EventChart, in_high, in_level}
use Rattle.model.specs.Components.{components, level_of, is_interface}
use Rattle.model.specs.Generators.{Gen}
use Rattle.generators.specs.Selfloops.{looped}
use Rattle.makes.specs.Meanings.{gen_of}
use Rattle.makes.specs.Shapes.{shape_in}

-- the alphabet of a level; 0 is the high one
abbrev pub alphabet_of : EventChart → ℕ → ℕ → Bool
alphabet_of chart zero e = in_high chart e
alphabet_of chart (suc j) e = in_level chart (suc j) e

-- component c by its body: plants and supervisors stand under a selfloop layer with their level's alphabet, interfaces stand bare
abbrev pub component_in : EventChart → ℕ → List ℕ → Gen
component_in chart c body =
    cond (is_interface c) (gen_of (shape_in chart.events body)) (looped (gen_of (shape_in chart.events body)) (alphabet_of chart (level_of c)))

-- component c of a bank over E events that holds the bodies, where `inside` tells the events of each level's alphabet
abbrev pub component_over : (E : ℕ) (inside : ℕ → ℕ → Bool) (bodies : List (List ℕ)) → ℕ → Gen
component_over E inside bodies c =
    looped (gen_of (shape_in E (slice_index_or bodies (c + 1) []))) (λ e. not (is_interface c) && inside (level_of c) e)

-- the first `len` of its components
abbrev pub list_over : (len E : ℕ) (inside : ℕ → ℕ → Bool) (bodies : List (List ℕ)) → List Gen
list_over len E inside bodies = map (component_over E inside bodies) (range_with_len 0 len)

-- component c of a bank that holds the chart and the bodies
abbrev pub component_from : EventChart → (bodies : List (List ℕ)) → ℕ → Gen
component_from chart bodies c = component_over chart.events (alphabet_of chart) bodies c

abbrev pub list_from : EventChart → (bodies : List (List ℕ)) → List Gen
list_from chart bodies = list_over (components chart.levels) chart.events (alphabet_of chart) bodies
