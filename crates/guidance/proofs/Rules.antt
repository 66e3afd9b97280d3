-- The guide's rules, by the ways that the searches give. Assumes nothing.
use Rattle.std.proofs.Common.{◌≡◌, ℕ, suc, ◌<◌, Bool, true, false, cond, ltb, IfOk, Some, None, Ok, Err, Option, Result, sym, refl, ap, ◌∙◌, subst, arith}
use mathlib.Core.Option.{Option as Maybe, some}
use Rattle.std.proofs.lemmas.Bool.{ltb-true}
use Rattle.model.specs.Automata.{distance}
use Rattle.model.specs.Charts.{EventChart, WellCharted, IsLevel, is_high}
use Rattle.model.specs.Numbers.{first}
use Rattle.model.specs.declared.kind.Kind.{Kind}
use Rattle.model.specs.declared.kind.Kind.TheVariants.{Answer}
use Rattle.charts.specs.Alphabets.{kind_at, owner_at}
use Rattle.search.specs.declared.answers.Way.{Way}
use Rattle.search.specs.declared.answers.Way.TheVariants.{Unreachable, Here, By}
use Rattle.hisc.specs.Guide.{named, high_distance, low_distance, any_answer, answer_or, by_kind, wanted, homeward, not_at_rest, by_distance, guide}
use Rattle.hisc.specs.Lines.{Line, State, high, low}
use Rattle.hisc.specs.Points.{answer_enabled, high_automaton, to_rest, to_answer, to_any_answer}
use Rattle.hisc.specs.Sizes.{size}
use Rattle.hisc.specs.declared.guide.Guidance.{Guidance}
use Rattle.hisc.specs.declared.guide.Guidance.TheVariants.{NoEvent, Event}
use Rattle.walks.specs.Aims.{aim_part}
use Rattle.walks.specs.Searches.{way_to, nearest_in}
use Rattle.walks.specs.declared.aim.Aim.{Aim}
use Rattle.walks.specs.declared.aim.Aim.TheVariants.{HighMarked, AtRest, Answer as ToAnswer, AnyAnswer}
use Rattle.walks.specs.declared.refusal.Refusal.{Refusal}
use Rattle.guidance.specs.Ready.{Searchable, Ready, Gives, step_by}
use Rattle.guidance.proofs.Ways.{step-toward, way-none, way-here, way_by, nearest-made}

-- an answer that is given, one that is passed on, and one that a search refused
pub gives-ok : (l : Line) (x : State) (cells : ℕ) (rule : Line → State → Guidance) (g : Guidance) → g ≡ rule l x → Gives l x cells rule (Ok g)
gives-ok l x cells rule g h = record { value = h; succeeds = λ _. refl }

pub gives-on : (l : Line) (x : State) (m n : ℕ) (rule rule' : Line → State → Guidance) (r : Result Guidance Refusal) →
    Gives l x m rule r → m ≡ n → rule l x ≡ rule' l x → Gives l x n rule' r
gives-on l x m n rule rule' r s same h = record {
  value = subst (λ (g : Guidance). IfOk r (λ g'. g' ≡ g)) h s.value;
  succeeds = λ ready. s.succeeds (subst (λ (k : ℕ). Ready l x k) (sym same) ready);
}

pub gives-refused : (l : Line) (x : State) (cells : ℕ) (rule : Line → State → Guidance) (aim : Aim) (e e' : Refusal) →
    (Ready l x cells → Searchable l x cells (aim_part aim)) → Err e ≡ nearest_in l aim x cells → Gives l x cells rule (Err e')
gives-refused l x cells rule aim e e' f h = record {
  value = tt;
  succeeds = λ ready. absurd (let m = nearest-made l aim x cells (f ready) in let z : ◌≡◌ {A = ℕ} 0 1 = cc in omega arith);
}

module _ (l : Line) (x : State) where
  -- toward any answer of level j
  pub any_step : (j : ℕ) (w : Way) → w ≡ way_to l (AnyAnswer j) x → step_by w (named (first l.chart.events (answer_enabled l j x))) ≡ any_answer l j x
  unfolding low_distance
  any_step j w h =
      let there = named (first l.chart.events (answer_enabled l j x)) in
      ap (λ (v : Way). step_by v there) h ∙ step-toward (to_any_answer l j) x (distance (to_any_answer l j) (size l (low l j)) x) there

  -- toward the answer a of level j
  answer-none : (j a : ℕ) → Unreachable ≡ way_to l (ToAnswer j a) x → any_answer l j x ≡ answer_or l j a x (low_distance l j (to_answer l j a) x)
  unfolding low_distance
  answer-none j a h =
      let o = distance (to_answer l j a) (size l (low l j)) x in
      sym (ap (answer_or l j a x) (way-none (to_answer l j a) (size l (low l j)) x o refl h))

  -- with no word to it, any answer's guidance is passed on
  pub falls-back : (m n j a : ℕ) → m ≡ n → Unreachable ≡ way_to l (ToAnswer j a) x → (r : Result Guidance Refusal) →
      Gives l x m (λ l x. any_answer l j x) r → Gives l x n (λ l x. answer_or l j a x (low_distance l j (to_answer l j a) x)) r
  falls-back m n j a same way r s =
      gives-on l x m n (λ l x. any_answer l j x) (λ l x. answer_or l j a x (low_distance l j (to_answer l j a) x)) r s same (answer-none j a way)

  answer-here : (j a : ℕ) → Here ≡ way_to l (ToAnswer j a) x → Event a ≡ answer_or l j a x (low_distance l j (to_answer l j a) x)
  unfolding low_distance
  answer-here j a h =
      let o = distance (to_answer l j a) (size l (low l j)) x in
      sym (ap (answer_or l j a x) (way-here (to_answer l j a) x o h))

  answer-by : (j a e k : ℕ) → By e k ≡ way_to l (ToAnswer j a) x → Event e ≡ answer_or l j a x (low_distance l j (to_answer l j a) x)
  unfolding low_distance
  answer-by j a e k h =
      let o = distance (to_answer l j a) (size l (low l j)) x in
      let p = way_by (to_answer l j a) (size l (low l j)) x o e k refl h in
      sym (ap (answer_or l j a x) p.far ∙ ap named p.event)

  pub answer-step : (j a : ℕ) (w : Way) → w ≡ way_to l (ToAnswer j a) x → (w ≡ Unreachable → ⊥) → step_by w (Event a) ≡ answer_or l j a x (low_distance l j (to_answer l j a) x)
  answer-step j a Unreachable h ne = absurd (ne refl)
  answer-step j a Here h ne = answer-here j a h
  answer-step j a (By e k) h ne = answer-by j a e k h

  -- toward rest in level j
  pub rest-step : (j : ℕ) (w : Way) → w ≡ way_to l (AtRest j) x → some j ≡ first (suc l.chart.levels) (not_at_rest l x) →
      step_by w NoEvent ≡ homeward l (first (suc l.chart.levels) (not_at_rest l x)) x
  unfolding low_distance
  rest-step j w h lowest-is =
      ap (λ (v : Way). step_by v NoEvent) h ∙ step-toward (to_rest l j) x (distance (to_rest l j) (size l (low l j)) x) NoEvent ∙
      ap (λ (o : Maybe ℕ). homeward l o x) lowest-is

  -- the guide, by the way to the high walk's marked states
  pub guide-none : Unreachable ≡ way_to l HighMarked x → NoEvent ≡ guide l x
  unfolding guide high_distance
  guide-none h =
      let o = distance (high_automaton l) (size l (high l)) x in
      sym (ap (λ (d : Maybe ℕ). by_distance l d x) (way-none (high_automaton l) (size l (high l)) x o refl h))

  pub guide-here : Here ≡ way_to l HighMarked x → homeward l (first (suc l.chart.levels) (not_at_rest l x)) x ≡ guide l x
  unfolding guide high_distance
  guide-here h =
      let o = distance (high_automaton l) (size l (high l)) x in
      sym (ap (λ (d : Maybe ℕ). by_distance l d x) (way-here (high_automaton l) x o h))

  pub guide-by : (e k : ℕ) → By e k ≡ way_to l HighMarked x → (e < l.chart.events) × (by_kind l (l.chart.kind e) e x ≡ guide l x)
  unfolding guide high_distance
  guide-by e k h =
      let o = distance (high_automaton l) (size l (high l)) x in
      let p = way_by (high_automaton l) (size l (high l)) x o e k refl h in
      (p.below, sym (ap (λ (d : Maybe ℕ). by_distance l d x) p.far ∙ ap (λ (d : Maybe ℕ). wanted l d x) p.event))

-- the level that owns an answer
kind-is : (b : Bool) (k k' : Kind) → ◌≡◌ {A = Option Kind} (cond b (Some k) None) (Some k') → (b ≡ true) × (k ≡ k')
kind-is true k k' h = (refl, cc)
kind-is false k k' h = absurd (let z : ◌≡◌ {A = ℕ} 0 1 = cc in omega arith)

owner-is : (b : Bool) (j j' : ℕ) → ◌≡◌ {A = Option ℕ} (cond b (Some j) None) (Some j') → j ≡ j'
owner-is true j j' h = cc
owner-is false j j' h = absurd (let z : ◌≡◌ {A = ℕ} 0 1 = cc in omega arith)

pub owner-level : (c : EventChart) → WellCharted c → (e j : ℕ) → kind_at c e ≡ Some Answer → owner_at c e ≡ Some j → IsLevel c j
owner-level c w e j k o =
    let p = kind-is (ltb e c.events) (c.kind e) Answer k in
    subst (λ (i : ℕ). IsLevel c i) (owner-is (ltb e c.events) (c.owner e) j o) (w.low_owner e (ltb-true e c.events p.0) (ap is_high p.1))
