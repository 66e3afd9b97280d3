-- What the check hands over. Assumes nothing.
use Rattle.std.specs.Prelude.{◌≡◌, List, length, Some, None, Ok, Err, Result}
use Rattle.model.specs.Generators.{Gen}
use Rattle.model.specs.declared.fault.Fault.{Fault}
use Rattle.generators.specs.declared.bank.Bank.{Ghosts}
use Rattle.hisc.specs.Law.{Law}
use Rattle.hisc.specs.Sizes.{Cells}
use Rattle.hisc.specs.Verdict.{Verdict}
use Rattle.walks.specs.Given.{line_given}
use Rattle.walks.specs.declared.line.Line.{Line as Given}
use Rattle.line.specs.declared.passed.Passed.{Passed}

module _ {B : Type 0} (list : B → List Gen) where
  -- a line that does not pass comes back as it was, with the first fault
  pub record GivenBack (given : Given B) (cells : Cells) (fault : Fault) (back : Given B) : Type 0 where
    pub verdict : Verdict (line_given list given) (length (list given.bank)) cells (Some fault)
    pub same : back ≡ given

module _ {B : Type 0} {g : Ghosts B} where
  -- a line that passes is handed over whole: its sizes fit, the work cells suffice and the ten points hold; and so it keeps the law over every queue of calls
  pub record HandedOver (given : Given B) (cells : Cells) (passed : Passed B g) : Type 0 where
    pub verdict : Verdict (line_given g.list given) (length (g.list given.bank)) cells None
    pub same_line : passed.line ≡ given
    pub law : Law (line_given g.list given)

  abbrev pub Judged : Given B → Cells → Result (Passed B g) (Fault × Given B) → Type 0
  Judged given cells (Ok passed) = HandedOver given cells passed
  Judged given cells (Err e) = GivenBack g.list given cells e.0 e.1
