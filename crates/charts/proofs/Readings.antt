-- What the readers give, case by case. Assumes nothing.
use Rattle.std.proofs.Common.{◌≡◌, ℕ, ◌+◌, ◌*◌, ◌<◌, ◌≤◌, ◌≢◌, min, List, length, Err, ap, ◌∙◌, arith}
use Rattle.std.proofs.lemmas.Bool.Decides.{nat_tests}
use Rattle.model.specs.declared.fault.Fault.{Fault}
use Rattle.model.specs.declared.fault.Fault.TheVariants.{Contents, Event}
use Rattle.model.proofs.Places.{first_off-is}
use Rattle.charts.specs.Rows.{byte_fits, first_wrong, completed, rows_reading}
use Rattle.charts.specs.RowSteps.{Gathered, RightBytes}
use Rattle.charts.specs.Sets.{chart_from}
use Rattle.charts.specs.declared.chart.Sets.{Sets}
use Rattle.charts.proofs.Gathering.{gathered-chart}

module _ (n events : ℕ) (rows : List ℕ) (origin : ℕ) where
  pub rows_other : length rows ≢ 3 * events → Err (Contents (origin + min (length rows) (3 * events))) ≡ rows_reading n events rows origin
  unfolding rows_reading
  rows_other h = grind (arith, nat_tests)

  pub rows-wrong : (fault : Fault) → length rows ≡ 3 * events → (fault ≡ Event (origin + first_wrong n events rows)) × (first_wrong n events rows < 3 * events)
      → Err fault ≡ rows_reading n events rows origin
  unfolding rows_reading
  rows-wrong fault h f = grind (arith, nat_tests)

  -- rows of right bytes: what is left is that each level owns a request and an answer
  pub rows_right : (s : Sets) → n ≤ 8 → length rows ≡ 3 * events → Gathered rows events s → RightBytes n rows events
      → completed (chart_from n events s) ≡ rows_reading n events rows origin
  unfolding rows_reading first_wrong
  rows_right s few h g right =
      let off : first_wrong n events rows ≡ 3 * events = first_off-is (3 * events) (byte_fits n rows) (3 * events) (omega arith) right (λ q. absurd (omega arith)) in
      ap completed (gathered-chart n events rows s few g right) ∙ grind (arith, nat_tests)
