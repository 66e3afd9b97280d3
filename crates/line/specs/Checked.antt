-- What a line that passed, and one that runs, is known to be. Assumes nothing.
use Rattle.std.specs.Prelude.{◌≡◌, List, length}
use Rattle.model.specs.Generators.{Gen}
use Rattle.hisc.specs.Lines.{flat, Reached}
use Rattle.hisc.specs.Calls.{look}
use Rattle.hisc.specs.Points.{Points}
use Rattle.hisc.specs.Verdict.{SizesFit}
use Rattle.walks.specs.Given.{line_given}
use Rattle.walks.specs.Rows.{row_state}
use Rattle.walks.specs.declared.row.Row.{Row}
use Rattle.walks.specs.declared.line.Line.{Line as Given}

module _ {B : Type 0} (list : B → List Gen) (given : Given B) where
  -- what the check finds of a line that passes: the bank has the line's components, every walk has at most 4,096 states, and the ten points hold
  pub record Checked : Type 0 where
    pub sizes : SizesFit (line_given list given) (length (list given.bank))
    pub points : Points (line_given list given)

  -- what is known of a running line, too: its states are reached in the whole line, and its row is what a look shows, so 0 beyond the last component
  pub record Runs (row : Row) : Type 0 where
    pub checked : Checked
    pub reached : Reached (line_given list given) (flat (line_given list given)) (row_state row)
    pub shown : row.states ≡ look (line_given list given) (row_state row)
