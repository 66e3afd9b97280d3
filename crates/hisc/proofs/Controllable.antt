-- No plant is hindered in an uncontrollable event. Assumes nothing.
use Rattle.std.proofs.Common.{◌≡◌, ℕ, ◌<◌, true, false, ◌⊎◌, ◌∙◌, inl, inr, arith}
use Rattle.std.proofs.lemmas.Bool.{cases_Bool}
use Rattle.model.specs.Generators.{forbids}
use Rattle.model.specs.Charts.{IsLevel}
use Rattle.hisc.specs.Lines.{Line, State, plant, interface, flat, high, low, possible, Reached}
use Rattle.hisc.specs.Law.{PlantsPermit}
use Rattle.hisc.proofs.Walks.{unknown-free, permits-free, known-permits, possible-at, possible-make, high-each, low-each, low-interface, low-unknown, to_high, to_low, accept}
use Rattle.hisc.proofs.Facts.{Facts}

module _ (l : Line) (F : Facts l) (x : State) (r : Reached l (flat l) x) (e : ℕ) (u : l.chart.uncontrollable e ≡ true)
    (first : forbids (l.component 0) (x 0) e ≡ false) (plants : (j : ℕ) → IsLevel l.chart j → forbids (l.component (plant j)) (x (plant j)) e ≡ false) where
  lower : (j : ℕ) → IsLevel l.chart j → (possible l (low l j) x e ≡ true) ⊎ ((low l j).alphabet e ≡ false)
  lower j v =
      elim (cases_Bool ((low l j).alphabet e)) [
        | inl a ↦
            let n = F.low_free j v x (to_low l F.known j v r) e u a (known-permits (l.component (plant j)) (x (plant j)) e (F.known.plants j e v ∙ a) (plants j v)) in
            inl (possible-make l (low l j) x e a (λ c lt i. low-each l j (λ c. forbids (l.component c) (x c) e ≡ false) (plants j v) n.0 n.1 c i))
        | inr f ↦ inr f
      ]

  at-interface : (j : ℕ) → IsLevel l.chart j → forbids (l.component (interface j)) (x (interface j)) e ≡ false
  at-interface j v =
      elim (lower j v) [
        | inl p ↦ possible-at l (low l j) x e p (interface j) (omega (arith, v)) (low-interface l j)
        | inr f ↦ unknown-free (l.component (interface j)) (x (interface j)) e (low-unknown l F.known j e v f (interface j) (low-interface l j))
      ]

  upper : (possible l (high l) x e ≡ true) ⊎ ((high l).alphabet e ≡ false)
  upper =
      elim (cases_Bool ((high l).alphabet e)) [
        | inl a ↦
            let p = F.high_free x (to_high l F.known r) e u a (known-permits (l.component 0) (x 0) e (F.known.high_plant e ∙ a) first) at-interface in
            inl (possible-make l (high l) x e a (λ c lt i. high-each l (λ c. forbids (l.component c) (x c) e ≡ false) first (permits-free (l.component 1) (x 1) e p) at-interface c i))
        | inr f ↦ inr f
      ]

pub unhindered : (l : Line) → Facts l → (x : State) → Reached l (flat l) x → (e : ℕ) → e < l.chart.events → l.chart.uncontrollable e ≡ true →
    PlantsPermit l x e → possible l (flat l) x e ≡ true
unhindered l F x r e lt u p = accept l F.known x e lt (upper l F x r e u p.top p.levels) (lower l F x r e u p.top p.levels)
