-- What a distance means: the length of a shortest word. Assumes nothing.
use Rattle.std.specs.Prelude.{◌≡◌, ℕ, ◌<◌, ◌≤◌, true, List, length}
use Rattle.std.proofs.Math.Option.{some}
use Rattle.model.specs.Charts.{IsLevel}
use Rattle.model.specs.Automata.{Automaton, Leads, distance}
use Rattle.hisc.specs.Lines.{Line, WellMade, Walk, State, high, low, Reached}
use Rattle.hisc.specs.Sizes.{size}
use Rattle.hisc.specs.Points.{high_automaton, low_automaton, to_rest, to_answer, to_any_answer}

-- a word of d events leads from x to a marked state, and no shorter word does
pub record Nearest (a : Automaton State) (x : State) (d : ℕ) : Type 0 where
  pub word : List ℕ
  pub counted : length word ≡ d
  pub leads : Leads a word x
  pub shortest : (u : List ℕ) → Leads a u x → d ≤ length u

-- e leads from x to where d events are left, and no lower event does
pub record LowestStep (a : Automaton State) (x : State) (d e : ℕ) : Type 0 where
  pub enabled : a.enabled x e ≡ true
  pub left : Nearest a (a.move x e) d
  pub lowest : (i : ℕ) → i < e → a.enabled x i ≡ true → Nearest a (a.move x i) d → ⊥

module _ (l : Line) where
  -- the distances of an automaton over a walk
  pub record Distances (w : Walk) (a : Automaton State) : Type 0 where
    pub near : (x : State) (d : ℕ) → distance a (size l w) x ≡ some d → Nearest a x d
    -- from a reached state a word of any length gives a distance, and it is below the walk's size
    pub found : (x : State) → Reached l w x → (u : List ℕ) → Leads a u x → (d : ℕ) × (distance a (size l w) x ≡ some d) × (d < size l w)

  -- every distance that the points and the guide speak of
  pub record DistancesRight : Type 0 where
    pub top : Distances (high l) (high_automaton l)
    pub levels : (j : ℕ) → IsLevel l.chart j → Distances (low l j) (low_automaton l j)
    pub rest : (j : ℕ) → IsLevel l.chart j → Distances (low l j) (to_rest l j)
    pub answer : (j a : ℕ) → IsLevel l.chart j → Distances (low l j) (to_answer l j a)
    pub any_answer : (j : ℕ) → IsLevel l.chart j → Distances (low l j) (to_any_answer l j)

abbrev pub Shortest : Type 0
Shortest = (l : Line) → WellMade l → DistancesRight l
