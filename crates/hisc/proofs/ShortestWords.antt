-- Distances are the lengths of shortest words. Assumes nothing.
use Rattle.std.proofs.Common.{◌≡◌, ℕ, zero, suc, true, ◌&&◌, List, [], ◌∷◌, length, refl, ap, ◌∙◌, subst, inl, inr, arith}
use mathlib.Core.Option.{some}
use Rattle.std.proofs.lemmas.Bool.{and_parts, and_from, false_from_ne_true, cases_lt}
use Rattle.model.specs.Automata.{Automaton, Leads, reaches, distance, lowest}
use Rattle.model.proofs.Finds.{never, first-is, is-first}
use Rattle.model.proofs.Words.{reach_step, leads-reach, dist-is, dist-step}
use Rattle.hisc.specs.Lines.{Line, WellMade, Walk, State}
use Rattle.hisc.specs.Sizes.{size}
use Rattle.hisc.specs.Distances.{Nearest, LowestStep, Distances, Shortest}
use Rattle.hisc.proofs.Codes.{Valid, valid, Over, distance-found, distance_some}
use Rattle.hisc.proofs.Distances.{over-high, over-low, over-rest, over-answer, over_any}

-- a word of exactly k events
word_of : {S : Type 0} (a : Automaton S) (k : ℕ) (s : S) → reaches a k s ≡ true → (u : List ℕ) × (length u ≡ k) × Leads a u s
word_of a zero s r = ([], refl, r)
word_of a (suc k) s r =
    let p = reach_step a k s r in
    let u = word_of a k (a.move s p.0) p.3 in
    (p.0 ∷ u.0, ap suc u.1, (p.2, u.2))

module _ (l : Line) {w : Walk} {a : Automaton State} (o : Over l w a) where
  pub distance-near : (x : State) (d : ℕ) → distance a (size l w) x ≡ some d → Nearest a x d
  distance-near x d q =
      let r = dist-is a (size l w) d x q in
      let u = word_of a d x r.1 in
      record {
        word = u.0;
        counted = u.1;
        leads = u.2;
        shortest = λ v h. elim (cases_lt (length v) d) [
          | inl lt ↦ never (leads-reach a o.below v x h) (r.2 (length v) lt)
          | inr ge ↦ ge
        ];
      }

  near-reaches : (x : State) (d : ℕ) → Nearest a x d → reaches a d x ≡ true
  near-reaches x d n = subst (λ (m : ℕ). reaches a m x ≡ true) n.counted (leads-reach a o.below n.word x n.leads)

  pub near-distance : (x : State) (d : ℕ) → Valid l w x → Nearest a x d → distance a (size l w) x ≡ some d
  near-distance x d v n =
      let f = distance-found l o d x v (near-reaches x d n) in
      let m = distance-near x f.0 f.1 in
      let z : f.0 ≡ d = omega (arith, m.shortest n.word n.leads, n.shortest m.word m.leads, n.counted, m.counted) in
      f.1 ∙ ap some z

  -- the lowest event that lowers the distance
  pub lowest-is : (x : State) (d e : ℕ) → distance a (size l w) x ≡ some (suc d) → lowest a d x ≡ some e → LowestStep a x d e
  unfolding lowest
  lowest-is x d e q s =
      let f = first-is a.events (λ i. a.enabled x i && reaches a d (a.move x i)) e s in
      let b = and_parts _ _ f.holds in
      record {
        enabled = b.0;
        left = distance-near (a.move x e) d (dist-step a (size l w) d x e q f.within b.0 b.1);
        lowest = λ i lt t n. never (and_from _ _ t (near-reaches (a.move x i) d n)) (f.before i lt);
      }

  pub is-lowest : (x : State) (d e : ℕ) → distance a (size l w) x ≡ some (suc d) → LowestStep a x d e → lowest a d x ≡ some e
  unfolding lowest
  is-lowest x d e q s =
      is-first a.events (λ i. a.enabled x i && reaches a d (a.move x i)) e (record {
        within = o.below x e s.enabled;
        holds = and_from _ _ s.enabled (near-reaches (a.move x e) d s.left);
        before = λ i lt. false_from_ne_true (a.enabled x i && reaches a d (a.move x i)) (λ t.
            let b = and_parts _ _ t in
            s.lowest i lt b.0 (distance-near (a.move x i) d (dist-step a (size l w) d x i q (o.below x i b.0) b.0 b.1)));
      })

  over-distances : WellMade l → Distances l w a
  over-distances M = record {
    near = distance-near;
    found = λ x r u h.
        let d = distance_some l o x (valid l M.formed w r) (u, h) in
        (d.0, d.1, (dist-is a (size l w) d.0 x d.1).0);
  }

pub shortest : Shortest
shortest l M = record {
  top = over-distances l (over-high l M.formed) M;
  levels = λ j v. over-distances l (over-low l M.formed j) M;
  rest = λ j v. over-distances l (over-rest l M.formed j v) M;
  answer = λ j a v. over-distances l (over-answer l M.formed j a) M;
  any_answer = λ j v. over-distances l (over_any l M.formed j) M;
}
