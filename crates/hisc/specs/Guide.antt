-- The guide's rule. Assumes nothing.
use Rattle.std.specs.Prelude.{ℕ, zero, suc, Bool, not, ◌&&◌, nat_le}
use Rattle.std.proofs.Math.Option.{Option, none, some}
use Rattle.model.specs.Numbers.{first}
use Rattle.model.specs.Automata.{Automaton, distance, lowest}
use Rattle.model.specs.declared.kind.Kind.{Kind}
use Rattle.model.specs.declared.kind.Kind.TheVariants.{High, Low, Request, Answer}
use Rattle.hisc.specs.declared.guide.Guidance.{Guidance}
use Rattle.hisc.specs.declared.guide.Guidance.TheVariants.{Home, NoEvent, Event}
use Rattle.hisc.specs.Lines.{Line, State, high, low}
use Rattle.hisc.specs.Sizes.{size}
use Rattle.hisc.specs.Points.{at_rest, answer_enabled, high_automaton, to_rest, to_answer, to_any_answer}

abbrev pub named : Option ℕ → Guidance
named none = NoEvent
named (some e) = Event e

-- one step by an automaton from a known distance: at 0 what is given, above 0 the lowest event that lowers the distance by one
abbrev pub toward : Automaton State → Option ℕ → State → Guidance → Guidance
toward a none x there = NoEvent
toward a (some zero) x there = there
toward a (some (suc d)) x there = named (lowest a d x)

module _ (l : Line) where
  -- D: the least number of events to a high state with all components marked
  unfoldable pub high_distance : State → Option ℕ
  high_distance x = distance (high_automaton l) (size l (high l)) x

  -- the least number of L events of level j to where the automaton is marked
  unfoldable pub low_distance : ℕ → Automaton State → State → Option ℕ
  low_distance j a x = distance a (size l (low l j)) x

  -- toward any answer of level j; where one is possible, the lowest
  abbrev pub any_answer : ℕ → State → Guidance
  any_answer j x = toward (to_any_answer l j) (low_distance j (to_any_answer l j) x) x (named (first l.chart.events (answer_enabled l j x)))

  -- toward the answer a of level j, whose distance is given; with no word to it, toward any answer of the level
  abbrev pub answer_or : ℕ → ℕ → State → Option ℕ → Guidance
  answer_or j a x none = any_answer j x
  answer_or j a x (some d) = toward (to_answer l j a) (some d) x (Event a)

  -- toward the wanted event, by its kind
  abbrev pub by_kind : Kind → ℕ → State → Guidance
  by_kind High e x = Event e
  by_kind Low e x = NoEvent
  by_kind Request e x = Event e
  by_kind Answer e x = answer_or (l.chart.owner e) e x (low_distance (l.chart.owner e) (to_answer l (l.chart.owner e) e) x)

  abbrev pub wanted : Option ℕ → State → Guidance
  wanted none x = NoEvent
  wanted (some e) x = by_kind (l.chart.kind e) e x

  -- j is a level with unmarked plant or supervisor
  abbrev pub not_at_rest : State → ℕ → Bool
  not_at_rest x j = nat_le 1 j && not (at_rest l j x)

  -- toward rest in the given level; home if no level is left
  abbrev pub homeward : Option ℕ → State → Guidance
  homeward none x = Home
  homeward (some j) x = toward (to_rest l j) (low_distance j (to_rest l j) x) x NoEvent

  -- by D: above 0 the wanted event is the lowest that lowers it by one; at 0 the lowest level that is not at rest is led to rest
  abbrev pub by_distance : Option ℕ → State → Guidance
  by_distance none x = NoEvent
  by_distance (some zero) x = homeward (first (suc l.chart.levels) (not_at_rest x)) x
  by_distance (some (suc d)) x = wanted (lowest (high_automaton l) d x) x

  -- what the guide answers in the state x
  unfoldable pub guide : State → Guidance
  guide x = by_distance (high_distance x) x
