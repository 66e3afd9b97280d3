-- Queues of calls to a running line, and their replies. The states come from the calls alone. Assumes nothing.
use Rattle.std.specs.Prelude.{◌≡◌, ℕ, zero, suc, ◌+◌, Bool, true, cond, List, [], ◌∷◌, ◌++◌, ◌==◌, nat_le, nat_lt}
use Rattle.std.proofs.Math.Option.{Option, none, some}
use Rattle.model.specs.Numbers.{first}
use Rattle.model.specs.Generators.{Gen, forbids, moves}
use Rattle.model.specs.declared.fault.Layer.TheVariants.{Run}
use Rattle.model.specs.declared.fault.Fault.{Fault}
use Rattle.model.specs.declared.fault.Fault.TheVariants.{WorkCells, EventNumber, Refused, PossibleSlice}
use Rattle.hisc.specs.declared.guide.Guidance.{Guidance}
use Rattle.hisc.specs.Lines.{Line, State, components, flat, initial, moved, possible}
use Rattle.hisc.specs.Sizes.{Cells, enough}
use Rattle.hisc.specs.Guide.{guide}

pub data Call : Type 0 where
  -- an event is offered
  Offer : ℕ → Call
  -- the guide is asked, with three slices of work cells
  Guide : Cells → Call
  -- the possible events are asked for, with a slice of so many bytes
  Possible : ℕ → Call
  -- the component states are asked for
  Look : Call
  -- the initial states are set
  Restart : Call

pub data Reply : Type 0 where
  accepted : Reply
  guidance : Guidance → Reply
  events : List ℕ → Reply
  states : List ℕ → Reply
  restarted : Reply
  -- the call changes nothing, and its fault is the reply
  refused : Fault → Reply

-- the numbers below n that pass, rising
abbrev pub passing : ℕ → (ℕ → Bool) → List ℕ
passing zero p = []
passing (suc n) p = passing n p ++ cond (p n) (n ∷ []) []

-- f 0, .., f (n - 1)
abbrev pub row : ℕ → (ℕ → ℕ) → List ℕ
row zero f = []
row (suc n) f = row n f ++ (f n ∷ [])

module _ (l : Line) where
  -- the lowest component that knows e and forbids it
  unfoldable pub refuser : State → ℕ → Option ℕ
  refuser x e = first (components l) (λ c. forbids (l.component c) (x c) e)

  abbrev pub unless_refused : Option ℕ → ℕ → Reply
  unless_refused none e = accepted
  unless_refused (some c) e = refused (Refused c e)

  -- an offer is accepted if the event is one of the chart and no component forbids it
  abbrev pub offer_reply : State → ℕ → Reply
  offer_reply x e = cond (nat_lt e l.chart.events) (unless_refused (refuser x e) e) (refused (EventNumber e))

  -- the events that an offer would accept now
  abbrev pub acceptable : State → List ℕ
  acceptable x = passing l.chart.events (possible l (flat l) x)

  -- the states of 26 components, 0 beyond the last
  abbrev pub look : State → List ℕ
  look x = row 26 (λ c. cond (nat_lt c (components l)) (x c) 0)

  -- what a call is answered in the state x
  abbrev pub reply : State → Call → Reply
  reply x (Offer e) = offer_reply x e
  reply x (Guide cells) = cond (enough l cells) (guidance (guide l x)) (refused (WorkCells Run))
  reply x (Possible k) = cond (nat_le 64 k) (events (acceptable x)) (refused PossibleSlice)
  reply x Look = states (look x)
  reply x Restart = restarted

  -- the state after a call: an accepted offer moves every component that knows the event
  abbrev pub next : State → Call → State
  next x (Offer e) = cond (possible l (flat l) x e) (moved l x e) x
  next x (Guide cells) = x
  next x (Possible k) = x
  next x Look = x
  next x Restart = initial l

  -- the state after a queue of calls, and its replies
  abbrev pub after : State → List Call → State
  after x [] = x
  after x (c ∷ q) = after (next x c) q

  abbrev pub replies : State → List Call → List Reply
  replies x [] = []
  replies x (c ∷ q) = reply x c ∷ replies (next x c) q

-- how often e stands in the list
abbrev pub occurs : ℕ → List ℕ → ℕ
occurs e [] = 0
occurs e (d ∷ w) = cond (e == d) 1 0 + occurs e w

-- a generator's state after events in turn: those that it knows move it
abbrev pub turned : Gen → ℕ → List ℕ → ℕ
turned g s [] = s
turned g s (e ∷ w) = turned g (moves g s e) w

-- the events of the accepted offers of a queue since its last restart, after w
abbrev pub counted : Line → State → List ℕ → List Call → List ℕ
counted l x w [] = w
counted l x w (Offer e ∷ q) = counted l (next l x (Offer e)) (cond (possible l (flat l) x e) (w ++ (e ∷ [])) w) q
counted l x w (Guide cells ∷ q) = counted l x w q
counted l x w (Possible k ∷ q) = counted l x w q
counted l x w (Look ∷ q) = counted l x w q
counted l x w (Restart ∷ q) = counted l (initial l) [] q

-- the replies and the states fit together
pub record CallsAgree (l : Line) : Type 0 where
  -- an offer is accepted exactly if the event is possible in the whole line
  pub accepted_possible : (x : State) (e : ℕ) → reply l x (Offer e) ≡ accepted → possible l (flat l) x e ≡ true
  pub possible_accepted : (x : State) (e : ℕ) → possible l (flat l) x e ≡ true → reply l x (Offer e) ≡ accepted
  -- a refusal changes nothing
  pub refused_stays : (x : State) (c : Call) (f : Fault) → reply l x c ≡ refused f → next l x c ≡ x
  -- each event that an offer would accept is listed once, and no other
  pub listed_once : (x : State) (e : ℕ) → occurs e (acceptable l x) ≡ cond (possible l (flat l) x e) 1 0
  -- a component's state is its initial one, moved in turn by the accepted events since the last restart that it knows
  pub states_counted : (q : List Call) (c : ℕ) → after l (initial l) q c ≡ turned (l.component c) (l.component c).initial (counted l (initial l) [] q)

abbrev pub AllCallsAgree : Type 0
AllCallsAgree = (l : Line) → CallsAgree l
