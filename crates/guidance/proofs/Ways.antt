-- Ways and the guide's steps. Assumes nothing.
use Rattle.std.proofs.Common.{◌≡◌, ℕ, zero, suc, ◌<◌, Bool, true, false, cond, leb, Some, None, Ok, Err, Option, Result, refl, ap, ◌∙◌, subst, arith}
use mathlib.Core.Option.{Option as Maybe, none, some}
use Rattle.model.specs.Automata.{Automaton, distance, lowest}
use Rattle.model.proofs.Words.{lowers}
use Rattle.search.specs.Ways.{by_lowest}
use Rattle.search.specs.declared.answers.Way.{Way}
use Rattle.search.specs.declared.answers.Way.TheVariants.{Unreachable, Here, By}
use Rattle.hisc.specs.declared.guide.Guidance.{Guidance}
use Rattle.hisc.specs.Guide.{named, toward}
use Rattle.hisc.specs.Lines.{Line, State}
use Rattle.hisc.specs.Sizes.{size}
use Rattle.walks.specs.Aims.{aim_part, aim_walk}
use Rattle.walks.specs.Fits.{walk_refusal, within}
use Rattle.walks.specs.Searches.{unless_refused, with_cells, way_from, way_to, nearest_in}
use Rattle.walks.specs.declared.aim.Aim.{Aim}
use Rattle.walks.specs.declared.refusal.Refusal.{Refusal}
use Rattle.walks.specs.declared.refusal.Refusal.TheVariants.{NoState, ShortCells}
use Rattle.guidance.specs.Ready.{step_by, Searchable}

named_step : (a : Maybe ℕ) (d : ℕ) (there : Guidance) → step_by (by_lowest d a) there ≡ named a
named_step none d there = refl
named_step (some e) d there = refl

never_here : (o : Maybe ℕ) (d : ℕ) → Here ≡ by_lowest d o → ⊥
never_here none d h = let z : ◌≡◌ {A = ℕ} 0 1 = cc in omega arith
never_here (some e) d h = let z : ◌≡◌ {A = ℕ} 0 1 = cc in omega arith

-- the step by a way is the guide's step by its distance
pub step-toward : (a : Automaton State) (x : State) (o : Maybe ℕ) (there : Guidance) → step_by (way_from a x o) there ≡ toward a o x there
step-toward a x none there = refl
step-toward a x (some zero) there = refl
step-toward a x (some (suc d)) there = named_step (lowest a d x) (suc d) there

-- what a way tells of the distance
pub way-none : (a : Automaton State) (n : ℕ) (x : State) (o : Maybe ℕ) → distance a n x ≡ o → Unreachable ≡ way_from a x o → o ≡ none
way-none a n x none d h = refl
way-none a n x (some zero) d h = absurd (let z : ◌≡◌ {A = ℕ} 0 1 = cc in omega arith)
way-none a n x (some (suc k)) d h =
    let p = lowers a n k x d in
    let q : Unreachable ≡ by_lowest (suc k) (some p.0) = h ∙ ap (by_lowest (suc k)) p.1 in
    absurd (let z : ◌≡◌ {A = ℕ} 0 1 = cc in omega arith)

pub way-here : (a : Automaton State) (x : State) (o : Maybe ℕ) → Here ≡ way_from a x o → o ≡ some 0
way-here a x none h = absurd (let z : ◌≡◌ {A = ℕ} 0 1 = cc in omega arith)
way-here a x (some zero) h = refl
way-here a x (some (suc k)) h = absurd (never_here (lowest a k x) (suc k) h)

-- an event that lowers the distance: it is the lowest, and an event of the automaton
pub record Lowering (a : Automaton State) (x : State) (o : Maybe ℕ) (e : ℕ) : Type 0 where
  pub rest : ℕ
  pub far : o ≡ some (suc rest)
  pub event : lowest a rest x ≡ some e
  pub below : e < a.events

pub way_by : (a : Automaton State) (n : ℕ) (x : State) (o : Maybe ℕ) (e k : ℕ) → distance a n x ≡ o → By e k ≡ way_from a x o → Lowering a x o e
way_by a n x none e k d h = absurd (let z : ◌≡◌ {A = ℕ} 0 1 = cc in omega arith)
way_by a n x (some zero) e k d h = absurd (let z : ◌≡◌ {A = ℕ} 0 1 = cc in omega arith)
way_by a n x (some (suc m)) e k d h =
    let p = lowers a n m x d in
    let q : By e k ≡ By p.0 (suc m) = h ∙ ap (by_lowest (suc m)) p.1 in
    let same : p.0 ≡ e = cc in
    record { rest = m; far = refl; event = p.1 ∙ ap some same; below = subst (λ (i : ℕ). i < a.events) same p.2.below }

-- a search that answers gives the shortest way
unless-ok : {X : Type 0} (o : Option Refusal) (r : Result X Refusal) (w : X) → Ok w ≡ unless_refused o r → Ok w ≡ r
unless-ok None r w h = h
unless-ok (Some e) r w h = absurd (let z : ◌≡◌ {A = ℕ} 0 1 = cc in omega arith)

inside-ok : (b c : Bool) (w v : Way) → ◌≡◌ {A = Result Way Refusal} (Ok w) (cond b (cond c (Ok v) (Err ShortCells)) (Err NoState)) → w ≡ v
inside-ok true true w v h = cc
inside-ok true false w v h = absurd (let z : ◌≡◌ {A = ℕ} 0 1 = cc in omega arith)
inside-ok false c w v h = absurd (let z : ◌≡◌ {A = ℕ} 0 1 = cc in omega arith)

pub nearest-is : (l : Line) (aim : Aim) (x : State) (cells : ℕ) (w : Way) → Ok w ≡ nearest_in l aim x cells → w ≡ way_to l aim x
nearest-is l aim x cells w h =
    inside-ok (within l (aim_walk l aim) x) (leb (size l (aim_walk l aim)) cells) w (way_to l aim x)
    (unless-ok (walk_refusal l (aim_part aim)) (cond (within l (aim_walk l aim) x) (with_cells l (aim_walk l aim) cells (way_to l aim x)) (Err NoState)) w h)

-- and it answers where the walk can be searched
pub nearest-made : (l : Line) (aim : Aim) (x : State) (cells : ℕ) → Searchable l x cells (aim_part aim) → nearest_in l aim x cells ≡ Ok (way_to l aim x)
nearest-made l aim x cells s = rw (s.fits, s.inside, s.room) refl
