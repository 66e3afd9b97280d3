-- When the guide's searches can be made, and what is answered then. Assumes nothing.
use Rattle.std.specs.Prelude.{◌≡◌, ℕ, min, true, List, length, is_ok, IfOk, Some, None, Option, Result, nat_le}
use Rattle.std.proofs.Math.Option.{Option as Maybe, none, some}
use Rattle.model.specs.Charts.{IsLevel}
use Rattle.search.specs.declared.answers.Way.{Way}
use Rattle.search.specs.declared.answers.Way.TheVariants.{Unreachable, Here, By}
use Rattle.hisc.specs.declared.guide.Guidance.{Guidance}
use Rattle.hisc.specs.declared.guide.Guidance.TheVariants.{NoEvent, Event}
use Rattle.hisc.specs.Lines.{Line, State}
use Rattle.hisc.specs.Sizes.{size}
use Rattle.walks.specs.Fits.{walk_refusal, within}
use Rattle.walks.specs.Parts.{part_walk}
use Rattle.walks.specs.declared.part.Part.{Part}
use Rattle.walks.specs.declared.part.Part.TheVariants.{High, Low}
use Rattle.walks.specs.declared.refusal.Refusal.{Refusal}

-- how many cells the shorter slice has
abbrev pub lent : List ℕ → List ℕ → ℕ
lent queue keys = min (length queue) (length keys)

-- the step toward the end of a way: at the end what stands there, else its first event; none if there is no way
abbrev pub step_by : Way → Guidance → Guidance
step_by Unreachable there = NoEvent
step_by Here there = there
step_by (By e d) there = Event e

abbrev pub maybe : Option ℕ → Maybe ℕ
maybe None = none
maybe (Some j) = some j

-- the walk of the part can be searched from x: it has 1 to 4,096 states, those of x are among them, and there is a cell for each
pub record Searchable (l : Line) (x : State) (cells : ℕ) (part : Part) : Type 0 where
  pub fits : walk_refusal l part ≡ None
  pub inside : within l (part_walk l part) x ≡ true
  pub room : nat_le (size l (part_walk l part)) cells ≡ true

-- every walk can be searched
pub record Ready (l : Line) (x : State) (cells : ℕ) : Type 0 where
  pub top : Searchable l x cells High
  pub levels : (j : ℕ) → IsLevel l.chart j → Searchable l x cells (Low j)

-- the rule's guidance, or a search's refusal; and no search refuses where every walk can be searched
pub record Gives (l : Line) (x : State) (cells : ℕ) (rule : Line → State → Guidance) (r : Result Guidance Refusal) : Type 0 where
  pub value : IfOk r (λ g. g ≡ rule l x)
  pub succeeds : Ready l x cells → is_ok r ≡ true
