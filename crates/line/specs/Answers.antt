-- What the calls of a running line promise. Assumes nothing.
use Rattle.std.specs.Prelude.{◌≡◌, ℕ, List, take, Ok, Err, Result}
use Rattle.model.specs.declared.fault.Fault.{Fault}
use Rattle.generators.specs.declared.bank.Bank.{Ghosts}
use Rattle.hisc.specs.declared.guide.Guidance.{Guidance}
use Rattle.hisc.specs.Lines.{Line, State}
use Rattle.hisc.specs.Calls.{Call, Reply, accepted, guidance, events, states, refused, reply, next}
use Rattle.hisc.specs.Law.{Assured}
use Rattle.walks.specs.Rows.{row_state}
use Rattle.walks.specs.declared.row.Row.{Row}
use Rattle.walks.specs.Given.{line_given}
use Rattle.line.specs.declared.running.Running.{Running}

-- the reply to an offer
abbrev pub offered : Result (Unit {0}) Fault → Reply
offered (Ok u) = accepted
offered (Err fault) = refused fault

-- the reply of the guide
abbrev pub guided : Result Guidance Fault → Reply
guided (Ok given) = guidance given
guided (Err fault) = refused fault

-- how many bytes of the slice are written when the possible events are asked for, and the reply
abbrev pub written : Result ℕ Fault → ℕ
written (Ok k) = k
written (Err fault) = 0

abbrev pub listed : Result ℕ Fault → List ℕ → Reply
listed (Ok k) bytes = events (take k bytes)
listed (Err fault) bytes = refused fault

-- the reply to a look
abbrev pub shown : Row → Reply
shown row = states row.states

module _ {B : Type 0} {g : Ghosts B} where
  -- the line that runs, and its state
  abbrev pub line_in : Running B g → Line
  line_in running = line_given g.list running.passed.line

  abbrev pub state_in : Running B g → State
  state_in running = row_state running.row

  -- a call that was answered: its reply, the line and the state that it leaves, and what is assured of that state
  pub record Answered (before after : Running B g) (call : Call) (answer : Reply) : Type 0 where
    pub told : answer ≡ reply (line_in before) (state_in before) call
    pub same_line : after.passed.line ≡ before.passed.line
    pub moves : state_in after ≡ next (line_in before) (state_in before) call
    pub assured : Assured (line_in before) (state_in after)
