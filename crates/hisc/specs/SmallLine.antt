-- A small line with the ten points, and lines that differ from it in one component and lack one of them. Assumes nothing.
use Rattle.std.specs.Prelude.{◌≡◌, ℕ, ◌<◌, ◌≤◌, Bool, true, false, cond, ◌&&◌, ◌||◌, List, [], ◌∷◌, Some, None, ◌==◌, slice_index, slice_index_or}
use Rattle.model.specs.Generators.{Gen}
use Rattle.model.specs.Charts.{EventChart, IsLevel}
use Rattle.model.specs.declared.kind.Kind.TheVariants.{High, Low, Request, Answer}
use Rattle.model.specs.declared.next.Next.{Next}
use Rattle.model.specs.declared.next.Next.TheVariants.{Foreign, Forbidden, To}
use Rattle.model.specs.declared.fault.Layer.TheVariants.{Check, Run}
use Rattle.model.specs.declared.fault.Fault.{Fault}
use Rattle.model.specs.declared.fault.Fault.TheVariants.{Components, WalkSize, Alphabet, Point, WorkCells, EventNumber, Refused, PossibleSlice}
use Rattle.hisc.specs.Lines.{Line, line_of, WellMade, interface, components, high, low, initial}
use Rattle.hisc.specs.Sizes.{Cells, size, bound}
use Rattle.hisc.specs.Points.{is_marked, LowNonblocking, Points}
use Rattle.hisc.specs.Verdict.{Verdict}
use Rattle.hisc.specs.Calls.{Offer, Guide, Possible, Look, Restart, accepted, events, states, restarted, refused, replies}
use Rattle.hisc.specs.Law.{followed, led_home}

-- one move of a generator
pub record Move : Type 0 where
  pub from : ℕ
  pub event : ℕ
  pub to : ℕ

abbrev pub move : ℕ → ℕ → ℕ → Move
move s e t = record { from = s; event = e; to = t }

abbrev pub member : List ℕ → ℕ → Bool
member [] n = false
member (m ∷ ms) n = m == n || member ms n

abbrev pub next_by : List Move → ℕ → ℕ → Next
next_by [] s e = Forbidden
next_by (m ∷ ms) s e = cond (m.from == s && m.event == e) (To m.to) (next_by ms s e)

-- the generator with so many states, initial state 0, these known events, marked states and moves
abbrev pub generator : ℕ → List ℕ → List ℕ → List Move → Gen
generator count known marks moves = record {
  count = count;
  initial = 0;
  knows = member known;
  marked = member marks;
  next = λ s e. cond (member known e) (next_by moves s e) Foreign;
}

-- Event 0 is an H event, 1 a request of level 1, 2 its answer and 3 an L event of it; answer and L event are uncontrollable.
abbrev pub small_chart : EventChart
small_chart = record {
  levels = 1;
  events = 4;
  kind = λ e. slice_index_or (High ∷ Request ∷ Answer ∷ Low ∷ []) e High;
  owner = λ e. slice_index (0 ∷ 1 ∷ 1 ∷ 1 ∷ []) e;
  uncontrollable = λ e. slice_index_or (false ∷ false ∷ true ∷ true ∷ []) e false;
}

-- the high plant: a ring of three states by the events 0, 1, 2
abbrev pub small_high_plant : Gen
small_high_plant = generator 3 (0 ∷ 1 ∷ 2 ∷ []) (0 ∷ []) (move 0 0 1 ∷ move 1 1 2 ∷ move 2 2 0 ∷ [])

-- the plant of level 1: a ring of three states by the events 1, 3, 2, so that the answer is possible only after the L event
abbrev pub small_plant : Gen
small_plant = generator 3 (1 ∷ 2 ∷ 3 ∷ []) (0 ∷ []) (move 0 1 1 ∷ move 1 3 2 ∷ move 2 2 0 ∷ [])

-- the interface of level 1: the request leads from 0 to 1 and the answer back
abbrev pub small_interface : Gen
small_interface = generator 2 (1 ∷ 2 ∷ []) (0 ∷ []) (move 0 1 1 ∷ move 1 2 0 ∷ [])

-- a supervisor that permits every event that it knows: one marked state with a loop by each
abbrev pub loops : List ℕ → List Move
loops [] = []
loops (e ∷ known) = move 0 e 0 ∷ loops known

abbrev pub idle : List ℕ → Gen
idle known = generator 1 known (0 ∷ []) (loops known)

-- the line of these supervisors, with a high plant, a plant and an interface
abbrev pub line_with : Gen → Gen → Gen → Line
line_with top bottom between = line_of small_chart (top ∷ idle (0 ∷ 1 ∷ 2 ∷ []) ∷ bottom ∷ idle (1 ∷ 2 ∷ 3 ∷ []) ∷ between ∷ [])

abbrev pub small_line : Line
small_line = line_with small_high_plant small_plant small_interface

-- work cells of three equal lengths
abbrev pub cells_of : ℕ → Cells
cells_of n = record { first = n; second = n; third = n }

-- the small line has the ten points, and its calls are answered as they should be
pub record SmallLinePasses : Type 0 where
  pub made : WellMade small_line
  pub points : Points small_line
  pub high_size : size small_line (high small_line) ≡ 6
  pub low_size : size small_line (low small_line 1) ≡ 6
  pub most_offers : bound small_line ≡ 71
  -- the check passes it with six work cells in each slice, and not with five, nor over a bank of four components
  pub passes : Verdict small_line 5 (cells_of 6) None
  pub few_cells : Verdict small_line 5 (cells_of 5) (Some (WorkCells Check))
  pub incomplete : Verdict small_line 4 (cells_of 6) (Some Components)
  -- the answer 2 is refused in the state that the request enters, and accepted after the L event
  pub answered : replies small_line (initial small_line) (Offer 0 ∷ Offer 1 ∷ Offer 2 ∷ Offer 3 ∷ Offer 2 ∷ []) ≡
      accepted ∷ accepted ∷ refused (Refused 2 2) ∷ accepted ∷ accepted ∷ []
  -- at the start, event 3 is refused by component 2, and 4 is no event
  pub refusals : replies small_line (initial small_line) (Offer 3 ∷ Offer 4 ∷ Guide (cells_of 5) ∷ Possible 63 ∷ []) ≡
      refused (Refused 2 3) ∷ refused (EventNumber 4) ∷ refused (WorkCells Run) ∷ refused PossibleSlice ∷ []
  -- after event 0 the guide, followed, names 1, 3, 2, then says home
  pub led : replies small_line (initial small_line) (Offer 0 ∷ followed (cells_of 6) (1 ∷ 3 ∷ 2 ∷ [])) ≡ accepted ∷ led_home (1 ∷ 3 ∷ 2 ∷ [])
  pub shown : replies small_line (initial small_line) (Offer 0 ∷ Offer 1 ∷ Possible 64 ∷ Look ∷ Restart ∷ Look ∷ []) ≡
      accepted ∷ accepted ∷ events (3 ∷ []) ∷
      states (2 ∷ 0 ∷ 1 ∷ 0 ∷ 1 ∷ 0 ∷ 0 ∷ 0 ∷ 0 ∷ 0 ∷ 0 ∷ 0 ∷ 0 ∷ 0 ∷ 0 ∷ 0 ∷ 0 ∷ 0 ∷ 0 ∷ 0 ∷ 0 ∷ 0 ∷ 0 ∷ 0 ∷ 0 ∷ 0 ∷ []) ∷ restarted ∷
      states (0 ∷ 0 ∷ 0 ∷ 0 ∷ 0 ∷ 0 ∷ 0 ∷ 0 ∷ 0 ∷ 0 ∷ 0 ∷ 0 ∷ 0 ∷ 0 ∷ 0 ∷ 0 ∷ 0 ∷ 0 ∷ 0 ∷ 0 ∷ 0 ∷ 0 ∷ 0 ∷ 0 ∷ 0 ∷ 0 ∷ []) ∷ []

-- A line whose level chooses between two answers. 0 and 1 are H events, 2 a request, 3 and 4 its answers, 5 and 6 L events of level 1.
abbrev pub choice_chart : EventChart
choice_chart = record {
  levels = 1;
  events = 7;
  kind = λ e. slice_index_or (High ∷ High ∷ Request ∷ Answer ∷ Answer ∷ Low ∷ Low ∷ []) e High;
  owner = λ e. slice_index (0 ∷ 0 ∷ 1 ∷ 1 ∷ 1 ∷ 1 ∷ 1 ∷ []) e;
  uncontrollable = λ e. slice_index_or (false ∷ false ∷ false ∷ true ∷ true ∷ true ∷ true ∷ []) e false;
}

-- After answer 3 the high plant is home, and after answer 4 either H event leads home. In the plant, 5 leads to where answer 3 is possible,
-- and after 6 only answer 4 is left, one L event away.
abbrev pub choice_line : Line
choice_line =
    line_of choice_chart
    (generator 3 (0 ∷ 1 ∷ 2 ∷ 3 ∷ 4 ∷ []) (0 ∷ []) (move 0 2 1 ∷ move 1 3 0 ∷ move 1 4 2 ∷ move 2 0 0 ∷ move 2 1 0 ∷ []) ∷
    idle (0 ∷ 1 ∷ 2 ∷ 3 ∷ 4 ∷ []) ∷
    generator 5 (2 ∷ 3 ∷ 4 ∷ 5 ∷ 6 ∷ []) (0 ∷ [])
    (move 0 2 1 ∷ move 1 5 2 ∷ move 1 6 3 ∷ move 2 3 0 ∷ move 3 5 4 ∷ move 3 6 4 ∷ move 4 4 0 ∷ []) ∷
    idle (2 ∷ 3 ∷ 4 ∷ 5 ∷ 6 ∷ []) ∷
    generator 2 (2 ∷ 3 ∷ 4 ∷ []) (0 ∷ []) (move 0 2 1 ∷ move 1 3 0 ∷ move 1 4 0 ∷ []) ∷ [])

pub record ChoiceLinePasses : Type 0 where
  pub made : WellMade choice_line
  pub points : Points choice_line
  -- the guide goes for the answer that leads home soonest
  pub soonest : replies choice_line (initial choice_line) (Offer 2 ∷ followed (cells_of 10) (5 ∷ 3 ∷ [])) ≡ accepted ∷ led_home (5 ∷ 3 ∷ [])
  -- once no L event leads to that one, it goes for the other, by the lowest of two L events and of two H events
  pub other : replies choice_line (initial choice_line) (Offer 2 ∷ Offer 6 ∷ followed (cells_of 10) (5 ∷ 4 ∷ 0 ∷ [])) ≡
      accepted ∷ accepted ∷ led_home (5 ∷ 4 ∷ 0 ∷ [])

-- an interface whose initial state is unmarked
abbrev pub unmarked_start_line : Line
unmarked_start_line = line_with small_high_plant small_plant (generator 2 (1 ∷ 2 ∷ []) (1 ∷ []) (move 0 1 1 ∷ move 1 2 0 ∷ []))

-- a plant without the L event: no word leads to the answer that the interface permits
abbrev pub lost_answer_line : Line
lost_answer_line = line_with small_high_plant (generator 3 (1 ∷ 2 ∷ 3 ∷ []) (0 ∷ []) (move 0 1 1 ∷ move 2 2 0 ∷ [])) small_interface

-- a plant without a marked state
abbrev pub unmarked_plant_line : Line
unmarked_plant_line = line_with small_high_plant (generator 3 (1 ∷ 2 ∷ 3 ∷ []) [] (move 0 1 1 ∷ move 1 3 2 ∷ move 2 2 0 ∷ [])) small_interface

-- a plant that comes to rest after every second answer only: from state 3 no L event leads on, and a request does
abbrev pub rest_by_request_line : Line
rest_by_request_line =
    line_with small_high_plant
    (generator 6 (1 ∷ 2 ∷ 3 ∷ []) (0 ∷ []) (move 0 1 1 ∷ move 1 3 2 ∷ move 2 2 3 ∷ move 3 1 4 ∷ move 4 3 5 ∷ move 5 2 0 ∷ [])) small_interface

-- an interface that knows the L event in place of the answer
abbrev pub wrong_answer_line : Line
wrong_answer_line = line_with small_high_plant small_plant (generator 2 (1 ∷ 3 ∷ []) (0 ∷ []) (move 0 1 1 ∷ move 1 3 0 ∷ []))

-- a high plant that knows an event beyond the chart's
abbrev pub stray_event_line : Line
stray_event_line = line_with (generator 3 (0 ∷ 1 ∷ 2 ∷ 63 ∷ []) (0 ∷ []) (move 0 0 1 ∷ move 1 1 2 ∷ move 2 2 0 ∷ [])) small_plant small_interface

-- a plant of 4,096 states, so that the low walk has twice as many
abbrev pub too_large_line : Line
too_large_line = line_with small_high_plant (generator 4096 (1 ∷ 2 ∷ 3 ∷ []) (0 ∷ []) (move 0 1 1 ∷ move 1 3 2 ∷ move 2 2 0 ∷ [])) small_interface

-- the line is well made and lacks a point, and the fault is what the check answers
pub record RefusedWith (l : Line) (f : Fault) : Type 0 where
  pub made : WellMade l
  pub lacks : Points l → ⊥
  pub answer : Verdict l 5 (cells_of 12) (Some f)

pub record LinesRefused : Type 0 where
  pub unmarked_start : RefusedWith unmarked_start_line (Point 2 1 0 None)
  pub lost_answer : RefusedWith lost_answer_line (Point 5 1 4 (Some 2))
  pub unmarked_plant : RefusedWith unmarked_plant_line (Point 6 1 0 None)
  pub rest_by_request : RefusedWith rest_by_request_line (Point 6 1 3 None)
  -- and not for want of a word to all three marked
  pub rest_by_request_nonblocking : LowNonblocking rest_by_request_line 1
  pub wrong_answer : RefusedWith wrong_answer_line (Alphabet 1 4 2)
  pub stray_event : RefusedWith stray_event_line (Alphabet 0 0 63)
  pub too_large : WellMade too_large_line
  pub too_large_answer : (cells : Cells) → Verdict too_large_line 5 cells (Some (WalkSize 1))

-- every line with an unmarked initial state of an interface is refused, and every line with a component that knows an event beyond the chart's
pub record AlwaysRefused (l : Line) : Type 0 where
  pub unmarked_start : (j : ℕ) → IsLevel l.chart j → is_marked l (interface j) (initial l) ≡ false → Points l → ⊥
  pub stray_event : (c e : ℕ) → c < components l → l.chart.events ≤ e → (l.component c).knows e ≡ true → Points l → ⊥

abbrev pub EachRefused : Type 0
EachRefused = (l : Line) → AlwaysRefused l
