-- What one event does to the row of a running line. Assumes nothing.
use Rattle.std.specs.Prelude.{◌≡◌, ℕ, List, Some, None, Ok, Err, Option, Result}
use Rattle.model.specs.Generators.{Gen}
use Rattle.model.specs.declared.fault.Fault.{Fault}
use Rattle.model.specs.declared.next.Next.{Next}
use Rattle.model.specs.declared.next.Next.TheVariants.{Foreign, Forbidden, To}
use Rattle.hisc.specs.Lines.{State, moved}
use Rattle.hisc.specs.Calls.{accepted, refused, offer_reply}
use Rattle.walks.specs.Rows.{row_state}
use Rattle.walks.specs.declared.row.Row.{Row}
use Rattle.line.specs.Checked.{Runs}
use Rattle.walks.specs.Given.{line_given}
use Rattle.walks.specs.declared.line.Line.{Line as Given}

-- the state of a component after an event to which it gives this reply; none if it knows the event and forbids it
abbrev pub followed : Next → ℕ → Option ℕ
followed Foreign state = Some state
followed Forbidden state = None
followed (To target) state = Some target

-- the row after an offer of the event in the state x, if it is accepted, or the fault
abbrev pub Stepped : {B : Type 0} → (B → List Gen) → Given B → State → ℕ → Result Row Fault → Type 0
Stepped list given x event (Ok row) =
    (offer_reply (line_given list given) x event ≡ accepted) × (row_state row ≡ moved (line_given list given) x event) × Runs list given row
Stepped list given x event (Err fault) = offer_reply (line_given list given) x event ≡ refused fault
