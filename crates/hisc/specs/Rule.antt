-- The guide's rule as a relation between a state and an event. Assumes nothing.
use Rattle.std.specs.Prelude.{◌≡◌, ℕ, suc, ◌<◌, true, false}
use Rattle.model.specs.Charts.{IsLevel, is_high, is_request, is_answer}
use Rattle.model.specs.Automata.{Coreachable}
use Rattle.hisc.specs.declared.guide.Guidance.TheVariants.{Home, NoEvent, Event}
use Rattle.hisc.specs.Lines.{Line, WellMade, State, components, flat, high, low, marked, possible}
use Rattle.hisc.specs.Points.{at_rest, answer_enabled, high_automaton, to_rest, to_answer, to_any_answer}
use Rattle.hisc.specs.Distances.{Nearest, LowestStep}
use Rattle.hisc.specs.Guide.{guide}

module _ (l : Line) where
  -- every component is in one of its states
  abbrev pub InRange : State → Type 0
  InRange x = (c : ℕ) → c < components l → x c < (l.component c).count

  -- With D above 0, the wanted event is possible at h and leads to distance D - 1; it is the lowest that does.
  pub record Wanted (x : State) (e : ℕ) : Type 0 where
    pub left : ℕ
    pub above : Nearest (high_automaton l) x (suc left)
    pub lowers : LowestStep (high_automaton l) x left e

  -- a is a wanted answer of level j
  pub record WantedAnswer (x : State) (j a : ℕ) : Type 0 where
    pub wanted : Wanted x a
    pub answers : is_answer (l.chart.kind a) ≡ true
    pub owned : l.chart.owner a ≡ j

  -- e is the lowest answer that is possible in low walk j
  pub record LowestAnswer (x : State) (j e : ℕ) : Type 0 where
    pub enabled : answer_enabled l j x e ≡ true
    pub lowest : (i : ℕ) → i < e → answer_enabled l j x i ≡ false

  -- j is the lowest level with unmarked plant or supervisor
  pub record LowestUnrested (x : State) (j : ℕ) : Type 0 where
    pub level : IsLevel l.chart j
    pub unrested : at_rest l j x ≡ false
    pub lowest : (i : ℕ) → IsLevel l.chart i → i < j → at_rest l i x ≡ true

  -- the guide names e in the state x
  pub data Names (x : State) (e : ℕ) : Type 0 where
    -- a wanted H event or request
    wanted_high : Wanted x e → is_high (l.chart.kind e) ≡ true → Names x e
    wanted_request : Wanted x e → is_request (l.chart.kind e) ≡ true → Names x e
    -- a wanted answer of j that is possible in low walk j
    wanted_answer : (j : ℕ) → WantedAnswer x j e → possible l (low l j) x e ≡ true → Names x e
    -- an L event on the shortest word of L events of j to where the wanted answer is possible
    toward_answer : (j a d : ℕ) → WantedAnswer x j a → Nearest (to_answer l j a) x (suc d) → LowestStep (to_answer l j a) x d e → Names x e
    -- with no such word, the same for any answer of j
    other_answer : (j a : ℕ) → WantedAnswer x j a → (Coreachable (to_answer l j a) x → ⊥) → LowestAnswer x j e → Names x e
    toward_other : (j a d : ℕ) → WantedAnswer x j a → (Coreachable (to_answer l j a) x → ⊥) →
        Nearest (to_any_answer l j) x (suc d) → LowestStep (to_any_answer l j) x d e → Names x e
    -- with D at 0, in the lowest level with unmarked plant or supervisor, an L event on the shortest word of L events to both marked
    toward_rest : (j d : ℕ) → marked l (high l) x ≡ true → LowestUnrested x j → Nearest (to_rest l j) x (suc d) → LowestStep (to_rest l j) x d e → Names x e

  -- the guide's three answers
  pub record Ruled (x : State) : Type 0 where
    pub event_named : (e : ℕ) → guide l x ≡ Event e → Names x e
    pub named_event : (e : ℕ) → Names x e → guide l x ≡ Event e
    pub one_event : (d e : ℕ) → Names x d → Names x e → d ≡ e
    pub home_marked : guide l x ≡ Home → marked l (flat l) x ≡ true
    pub marked_home : marked l (flat l) x ≡ true → guide l x ≡ Home
    pub no_event : guide l x ≡ NoEvent → (e : ℕ) → Names x e → ⊥
    pub only_then : marked l (flat l) x ≡ false → ((e : ℕ) → Names x e → ⊥) → guide l x ≡ NoEvent

-- the guide keeps the rule in every state of every line, with the ten points or without
abbrev pub KeepsRule : Type 0
KeepsRule = (l : Line) → WellMade l → (x : State) → InRange l x → Ruled l x
