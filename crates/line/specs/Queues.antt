-- Queues of calls. Assumes nothing.
use Rattle.std.specs.Prelude.{◌≡◌, ℕ, ◌+◌, Bool, true, false, cond, List, [], ◌∷◌, map, take, Ok, Err, Result}
use Rattle.model.specs.declared.fault.Fault.{Fault}
use Rattle.generators.specs.declared.bank.Bank.{Ghosts}
use Rattle.hisc.specs.Calls.{Call, Offer, Guide, Possible, Look, Restart, Reply, accepted, guidance, events, states, restarted, refused, after, replies}
use Rattle.hisc.specs.Sizes.{Cells}
use Rattle.line.specs.Answers.{line_in, state_in}
use Rattle.line.specs.declared.queue.Call.{Call as CallGiven}
use Rattle.line.specs.declared.queue.Call.TheVariants.{Offer as OfferGiven, Guide as GuideGiven, Possible as PossibleGiven, Look as LookGiven, Restart as RestartGiven}
use Rattle.line.specs.declared.queue.Reply.{Reply as ReplyGiven}
use Rattle.line.specs.declared.queue.Reply.TheVariants.{Accepted, Guided, Listed, Shown, Restarted}
use Rattle.line.specs.declared.running.Running.{Running}

-- the call that a value stands for, with a slice of so many bytes for the possible events and three slices of work cells
abbrev pub call_of : ℕ → Cells → CallGiven → Call
call_of bytes cells (OfferGiven event) = Offer event
call_of bytes cells GuideGiven = Guide cells
call_of bytes cells PossibleGiven = Possible bytes
call_of bytes cells LookGiven = Look
call_of bytes cells RestartGiven = Restart

-- the reply that a result stands for, with the slice of the possible events as the call left it
abbrev pub reply_of : List ℕ → Result ReplyGiven Fault → Reply
reply_of out (Ok Accepted) = accepted
reply_of out (Ok (Guided given)) = guidance given
reply_of out (Ok (Listed count)) = events (take count out)
reply_of out (Ok (Shown row)) = states row.states
reply_of out (Ok Restarted) = restarted
reply_of out (Err fault) = refused fault

abbrev pub is_refused : Reply → Bool
is_refused accepted = false
is_refused (guidance g) = false
is_refused (events w) = false
is_refused (states w) = false
is_refused restarted = false
is_refused (refused f) = true

-- how many of the replies are refusals
abbrev pub refusals : List Reply → ℕ
refusals [] = 0
refusals (reply ∷ more) = cond (is_refused reply) 1 0 + refusals more

-- a queue of calls that was performed: how many were refused, and the line and the state that it leaves
pub record Performed {B : Type 0} {g : Ghosts B} (first last : Running B g) (bytes : ℕ) (cells : Cells) (queue : List CallGiven) (count : ℕ) : Type 0 where
  pub counted : count ≡ refusals (replies (line_in first) (state_in first) (map (call_of bytes cells) queue))
  pub same_line : last.passed.line ≡ first.passed.line
  pub moves : state_in last ≡ after (line_in first) (state_in first) (map (call_of bytes cells) queue)
