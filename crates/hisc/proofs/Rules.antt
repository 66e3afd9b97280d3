-- The guide keeps its rule. Assumes nothing.
use Rattle.std.proofs.Common.{◌≡◌, ℕ, zero, suc, ◌<◌, Bool, true, false, not, leb, ◌⊎◌, sym, refl, ap, ◌∙◌, subst, inl, inr, arith}
use mathlib.Core.Option.{Option, none, some}
use Rattle.std.proofs.lemmas.Bool.{cases_Bool, and_parts, and_from, and_left, and_right, and_cases, le-leb, leb-true, not-true, not-false, not_from_true, not_from_false}
use Rattle.model.specs.Numbers.{first}
use Rattle.model.specs.Charts.{IsLevel, is_high, is_request, is_answer}
use Rattle.model.specs.Automata.{Automaton, Coreachable, lowest}
use Rattle.model.specs.declared.kind.Kind.{Kind}
use Rattle.model.specs.declared.kind.Kind.TheVariants.{High, Low, Request, Answer}
use Rattle.model.proofs.Finds.{never, none≢some, option_cases, first-or, first-none, first-is, is-first, any-from}
use Rattle.model.proofs.Words.{dist-is, dist-goal}
use Rattle.hisc.specs.declared.guide.Guidance.{Guidance}
use Rattle.hisc.specs.declared.guide.Guidance.TheVariants.{Home, NoEvent, Event}
use Rattle.hisc.specs.Lines.{Line, WellMade, Walk, State, plant, supervisor, interface, flat, high, low, marked, possible, Reached}
use Rattle.hisc.specs.Sizes.{size}
use Rattle.hisc.specs.Points.{at_rest, answer_enabled, high_automaton, to_rest, to_answer, to_any_answer}
use Rattle.hisc.specs.Guide.{named, toward, high_distance, low_distance, answer_or, by_kind, wanted, not_at_rest, homeward, by_distance, guide}
use Rattle.hisc.specs.Rule.{InRange, Wanted, WantedAnswer, LowestUnrested, Names, wanted_high, wanted_request, wanted_answer, toward_answer, other_answer, toward_other, toward_rest, Ruled, KeepsRule}
use Rattle.hisc.proofs.Walks.{possible-alphabet, marked-at, marked-make, flat-each, high-interface}
use Rattle.hisc.proofs.Codes.{Valid, valid, size-pos, distance_some}
use Rattle.hisc.proofs.Facts.{is-answer, is-request, low_below}
use Rattle.hisc.proofs.Distances.{over-high, over-rest, over-answer, over_any}
use Rattle.hisc.proofs.Progress.{guide-wanted}
use Rattle.hisc.proofs.ShortestWords.{distance-near, near-distance, lowest-is, is-lowest}

abbrev is_home : Guidance → Bool
is_home Home = true
is_home NoEvent = false
is_home (Event e) = false

module _ (l : Line) where
  -- only by_distance (some 0) says Home
  named-not : (o : Option ℕ) → is_home (named o) ≡ false
  named-not none = refl
  named-not (some e) = refl

  toward-not : (a : Automaton State) (d : Option ℕ) (x : State) (t : Guidance) → is_home t ≡ false → is_home (toward a d x t) ≡ false
  toward-not a none x t n = refl
  toward-not a (some zero) x t n = n
  toward-not a (some (suc k)) x t n = named-not (lowest a k x)

  answer-not : (j a : ℕ) (x : State) (o : Option ℕ) → is_home (answer_or l j a x o) ≡ false
  answer-not j a x none = toward-not (to_any_answer l j) (low_distance l j (to_any_answer l j) x) x (named (first l.chart.events (answer_enabled l j x))) (named-not (first l.chart.events (answer_enabled l j x)))
  answer-not j a x (some c) = toward-not (to_answer l j a) (some c) x (Event a) refl

  wanted-not : (o : Option ℕ) (x : State) → is_home (wanted l o x) ≡ false
  wanted-not none x = refl
  wanted-not (some e) x = go (l.chart.kind e)
    where
      go : (k : Kind) → is_home (by_kind l k e x) ≡ false
      go High = refl
      go Low = refl
      go Request = refl
      go Answer = answer-not (l.chart.owner e) e x (low_distance l (l.chart.owner e) (to_answer l (l.chart.owner e) e) x)

  not_home : {X : Type 0} (x : State) (s : Guidance) → guide l x ≡ s → is_home s ≡ false → guide l x ≡ Home → X
  not_home x s p n q = never {b = true} refl (let z : is_home Home ≡ is_home s = ap is_home (sym q ∙ p) in z ∙ n)

  module _ (x : State) where
    all-marked : high_distance l x ≡ some 0 → first (suc l.chart.levels) (not_at_rest l x) ≡ none → marked l (flat l) x ≡ true
    unfolding high_distance
    all-marked q n =
        marked-make l (flat l) x (λ c lt i. flat-each l (λ c. (l.component c).marked (x c) ≡ true)
        (marked-at l (high l) x m 0 (omega arith) refl) (marked-at l (high l) x m 1 (omega arith) refl)
        (λ j v. (ready j v).0) (λ j v. (ready j v).1)
        (λ j v. marked-at l (high l) x m (interface j) (omega (arith, v)) (high-interface l j v)) c lt)
      where
        m : marked l (high l) x ≡ true
        m = (dist-is (high_automaton l) (size l (high l)) 0 x q).1

        ready : (j : ℕ) → IsLevel l.chart j → ((l.component (plant j)).marked (x (plant j)) ≡ true) × ((l.component (supervisor j)).marked (x (supervisor j)) ≡ true)
        ready j v =
            let u = first-none (suc l.chart.levels) (not_at_rest l x) n j (omega (arith, v)) in
            elim (and_cases (leb 1 j) (not (at_rest l j x)) u) [
              | inl a ↦ never (le-leb _ _ v.0) a
              | inr b ↦ and_parts _ _ (not-false _ b)
            ]

    pub home_marked : guide l x ≡ Home → marked l (flat l) x ≡ true
    unfolding guide
    home_marked g =
        elim (option_cases (high_distance l x)) [
          | inl D ↦ by D.0 D.1
          | inr n ↦ not_home x NoEvent (ap (λ (o : Option ℕ). by_distance l o x) n) refl g
        ]
      where
        by : (D : ℕ) → high_distance l x ≡ some D → marked l (flat l) x ≡ true
        by zero q =
            elim (option_cases (first (suc l.chart.levels) (not_at_rest l x))) [
              | inl j ↦
                  not_home x (homeward l (some j.0) x) (ap (λ (o : Option ℕ). by_distance l o x) q ∙ ap (λ (o : Option ℕ). homeward l o x) j.1)
                  (toward-not (to_rest l j.0) (low_distance l j.0 (to_rest l j.0) x) x NoEvent refl) g
              | inr n ↦ all-marked q n
            ]
        by (suc d) q = not_home x (wanted l (lowest (high_automaton l) d x) x) (ap (λ (o : Option ℕ). by_distance l o x) q) (wanted-not (lowest (high_automaton l) d x) x) g

    pub marked_home : InRange l x → marked l (flat l) x ≡ true → guide l x ≡ Home
    unfolding guide high_distance
    marked_home v m =
        let hi : marked l (high l) x ≡ true = marked-make l (high l) x (λ c lt i. marked-at l (flat l) x m c lt refl) in
        let q : high_distance l x ≡ some 0 = dist-goal (high_automaton l) (size l (high l)) x (size-pos l (high l) x (λ c lt i. v c lt)) hi in
        let n : first (suc l.chart.levels) (not_at_rest l x) ≡ none = elim (first-or (suc l.chart.levels) (not_at_rest l x)) [
          | inl k ↦
              let u = and_parts _ _ k.2.holds in
              let v : IsLevel l.chart k.0 = (leb-true _ _ u.0, omega (arith, k.2.within)) in
              never (and_from _ _ (marked-at l (flat l) x m (plant k.0) (omega (arith, v)) refl) (marked-at l (flat l) x m (supervisor k.0) (omega (arith, v)) refl))
              (not-true _ u.1)
          | inr f ↦ f.0
        ] in
        ap (λ (o : Option ℕ). by_distance l o x) q ∙ ap (λ (o : Option ℕ). homeward l o x) n

  pub in-range : WellMade l → (x : State) → Reached l (flat l) x → InRange l x
  in-range M x r c lt = valid l M.formed (flat l) r c lt refl

-- where an answer of the guide comes from
event-is : {X : Type 0} {e : ℕ} → NoEvent ≡ Event e → X
event-is {e = e} q = absurd cc

home-is : {X : Type 0} {e : ℕ} → Home ≡ Event e → X
home-is {e = e} q = absurd cc

same-event : (d e : ℕ) → Event d ≡ Event e → d ≡ e
same-event d e q = cc

named-is : (o : Option ℕ) (e : ℕ) → named o ≡ Event e → o ≡ some e
named-is none e q = event-is q
named-is (some d) e q = ap some (same-event d e q)

toward-is : (a : Automaton State) (o : Option ℕ) (x : State) (t : Guidance) (e : ℕ) → toward a o x t ≡ Event e →
    ((o ≡ some 0) × (t ≡ Event e)) ⊎ ((d : ℕ) × (o ≡ some (suc d)) × (lowest a d x ≡ some e))
toward-is a none x t e q = event-is q
toward-is a (some zero) x t e q = inl (refl, q)
toward-is a (some (suc d)) x t e q = inr (d, refl, named-is (lowest a d x) e q)

is-toward : (a : Automaton State) (d : ℕ) (o : Option ℕ) (x : State) (t : Guidance) (e : ℕ) → o ≡ some (suc d) → lowest a d x ≡ some e → toward a o x t ≡ Event e
is-toward a d o x t e q s = ap (λ (o : Option ℕ). toward a o x t) q ∙ ap named s

module _ (l : Line) (M : WellMade l) (x : State) (v : InRange l x) where
  fit : (w : Walk) → Valid l w x
  fit w c lt i = v c lt

  -- a wanted event, by the distances
  wanted-is : (d e : ℕ) → high_distance l x ≡ some (suc d) → lowest (high_automaton l) d x ≡ some e → Wanted l x e
  unfolding high_distance
  wanted-is d e q s = record {
    left = d;
    above = distance-near l (over-high l M.formed) x (suc d) q;
    lowers = lowest-is l (over-high l M.formed) x d e q s;
  }

  is-wanted : (e : ℕ) → Wanted l x e → (d : ℕ) × (high_distance l x ≡ some (suc d)) × (lowest (high_automaton l) d x ≡ some e)
  unfolding high_distance
  is-wanted e w =
      let q = near-distance l (over-high l M.formed) x (suc w.left) (fit (high l)) w.above in
      (w.left, q, is-lowest l (over-high l M.formed) x w.left e q w.lowers)

  guide-answer : (j a : ℕ) → WantedAnswer l x j a → guide l x ≡ answer_or l j a x (low_distance l j (to_answer l j a) x)
  guide-answer j a w =
      let p = is-wanted a w.wanted in
      guide-wanted l x p.0 a p.1 p.2 ∙ ap (λ (k : Kind). by_kind l k a x) (is-answer (l.chart.kind a) w.answers) ∙
      ap (λ (i : ℕ). answer_or l i a x (low_distance l i (to_answer l i a) x)) w.owned

  -- words and distances of the low walks
  no_word : (j a : ℕ) → low_distance l j (to_answer l j a) x ≡ none → Coreachable (to_answer l j a) x → ⊥
  unfolding low_distance
  no_word j a n q = none≢some (sym n ∙ (distance_some l (over-answer l M.formed j a) x (fit (low l j)) q).1)

  word_none : (j a : ℕ) → (Coreachable (to_answer l j a) x → ⊥) → low_distance l j (to_answer l j a) x ≡ none
  unfolding low_distance
  word_none j a f =
      elim (option_cases (low_distance l j (to_answer l j a) x)) [
        | inl d ↦ (let n = distance-near l (over-answer l M.formed j a) x d.0 d.1 in absurd (f (n.word, n.leads)))
        | inr n ↦ n
      ]

  possible-zero : (j a : ℕ) → possible l (low l j) x a ≡ true → low_distance l j (to_answer l j a) x ≡ some 0
  unfolding low_distance
  possible-zero j a p = dist-goal (to_answer l j a) (size l (low l j)) x (size-pos l (low l j) x (fit (low l j))) p

  zero-possible : (j a : ℕ) → low_distance l j (to_answer l j a) x ≡ some 0 → possible l (low l j) x a ≡ true
  unfolding low_distance
  zero-possible j a q = (dist-is (to_answer l j a) (size l (low l j)) 0 x q).1

  answer-below : (j e : ℕ) → answer_enabled l j x e ≡ true → e < l.chart.events
  answer-below j e t = low_below l j e (possible-alphabet l (low l j) x e (and_parts _ _ t).0)

  -- the wanted answer, and the others of its level
  answer-names : (j a e : ℕ) → WantedAnswer l x j a → answer_or l j a x (low_distance l j (to_answer l j a) x) ≡ Event e → Names l x e
  unfolding low_distance
  answer-names j a e w q =
      elim (option_cases (low_distance l j (to_answer l j a) x)) [
        | inl c ↦ elim (toward-is (to_answer l j a) (some c.0) x (Event a) e (sym (ap (answer_or l j a x) c.1) ∙ q)) [
          | inl z ↦ subst (λ (m : ℕ). Names l x m) (same-event a e z.1) (wanted_answer j w (zero-possible j a (c.1 ∙ z.0)))
          | inr s ↦
              let n = c.1 ∙ s.1 in
              toward_answer j a s.0 w (distance-near l (over-answer l M.formed j a) x (suc s.0) n) (lowest-is l (over-answer l M.formed j a) x s.0 e n s.2)
        ]
        | inr n ↦ elim (toward-is (to_any_answer l j) (low_distance l j (to_any_answer l j) x) x (named (first l.chart.events (answer_enabled l j x))) e (sym (ap (answer_or l j a x) n) ∙ q)) [
          | inl z ↦
              let f = first-is l.chart.events (answer_enabled l j x) e (named-is (first l.chart.events (answer_enabled l j x)) e z.1) in
              other_answer j a w (no_word j a n) (record { enabled = f.holds; lowest = f.before })
          | inr s ↦
              toward_other j a s.0 w (no_word j a n) (distance-near l (over_any l M.formed j) x (suc s.0) s.1) (lowest-is l (over_any l M.formed j) x s.0 e s.1 s.2)
        ]
      ]

  rest-names : (j e : ℕ) → marked l (high l) x ≡ true → LowestUnrested l x j → toward (to_rest l j) (low_distance l j (to_rest l j) x) x NoEvent ≡ Event e → Names l x e
  unfolding low_distance
  rest-names j e m u q =
      elim (toward-is (to_rest l j) (low_distance l j (to_rest l j) x) x NoEvent e q) [
        | inl z ↦ event-is z.1
        | inr s ↦
            toward_rest j s.0 m u (distance-near l (over-rest l M.formed j u.level) x (suc s.0) s.1) (lowest-is l (over-rest l M.formed j u.level) x s.0 e s.1 s.2)
      ]

  unrested-is : (j : ℕ) → first (suc l.chart.levels) (not_at_rest l x) ≡ some j → LowestUnrested l x j
  unrested-is j q =
      let f = first-is (suc l.chart.levels) (not_at_rest l x) j q in
      let u = and_parts _ _ f.holds in
      record {
        level = (leb-true _ _ u.0, omega (arith, f.within));
        unrested = not-true _ u.1;
        lowest = λ i lv lt. elim (and_cases (leb 1 i) (not (at_rest l i x)) (f.before i lt)) [
          | inl a ↦ never (le-leb _ _ lv.0) a
          | inr b ↦ not-false _ b
        ];
      }

  is-unrested : (j : ℕ) → LowestUnrested l x j → first (suc l.chart.levels) (not_at_rest l x) ≡ some j
  is-unrested j u =
      is-first (suc l.chart.levels) (not_at_rest l x) j (record {
        within = omega (arith, u.level);
        holds = and_from _ _ (le-leb _ _ u.level.0) (not_from_false _ u.unrested);
        before = λ i lt. before i lt (cases_Bool (leb 1 i));
      })
    where
      before : (i : ℕ) → i < j → (leb 1 i ≡ true) ⊎ (leb 1 i ≡ false) → not_at_rest l x i ≡ false
      before i lt (inl a) = and_right _ _ (not_from_true _ (u.lowest i (leb-true _ _ a, omega (arith, u.level)) lt))
      before i lt (inr b) = and_left _ _ b

  -- a named event is by the rule
  pub event_named : (e : ℕ) → guide l x ≡ Event e → Names l x e
  unfolding guide high_distance
  event_named e g =
      elim (option_cases (high_distance l x)) [
        | inl D ↦ by D.0 D.1
        | inr n ↦ event-is (sym (ap (λ (o : Option ℕ). by_distance l o x) n) ∙ g)
      ]
    where
      kinds : (d a : ℕ) → high_distance l x ≡ some (suc d) → lowest (high_automaton l) d x ≡ some a → (k : Kind) → l.chart.kind a ≡ k → by_kind l k a x ≡ Event e → Names l x e
      kinds d a q s High k h = subst (λ (m : ℕ). Names l x m) (same-event a e h) (wanted_high (wanted-is d a q s) (ap is_high k))
      kinds d a q s Low k h = event-is h
      kinds d a q s Request k h = subst (λ (m : ℕ). Names l x m) (same-event a e h) (wanted_request (wanted-is d a q s) (ap is_request k))
      kinds d a q s Answer k h =
          answer-names (l.chart.owner a) a e (record { wanted = wanted-is d a q s; answers = ap is_answer k; owned = refl }) h

      by : (D : ℕ) → high_distance l x ≡ some D → Names l x e
      by zero q =
          let g' = sym (ap (λ (o : Option ℕ). by_distance l o x) q) ∙ g in
          elim (option_cases (first (suc l.chart.levels) (not_at_rest l x))) [
            | inl j ↦
                rest-names j.0 e (dist-is (high_automaton l) (size l (high l)) 0 x q).1 (unrested-is j.0 j.1) (sym (ap (λ (o : Option ℕ). homeward l o x) j.1) ∙ g')
            | inr n ↦ home-is (sym (ap (λ (o : Option ℕ). homeward l o x) n) ∙ g')
          ]
      by (suc d) q =
          let g' = sym (ap (λ (o : Option ℕ). by_distance l o x) q) ∙ g in
          elim (option_cases (lowest (high_automaton l) d x)) [
            | inl a ↦ kinds d a.0 q a.1 (l.chart.kind a.0) refl (sym (ap (λ (o : Option ℕ). wanted l o x) a.1) ∙ g')
            | inr n ↦ event-is (sym (ap (λ (o : Option ℕ). wanted l o x) n) ∙ g')
          ]

  -- an event by the rule is named
  pub named_event : (e : ℕ) → Names l x e → guide l x ≡ Event e
  unfolding guide high_distance low_distance
  named_event e (wanted_high w k) =
      let p = is-wanted e w in
      guide-wanted l x p.0 e p.1 p.2 ∙ ap (λ (k : Kind). by_kind l k e x) (is-high (l.chart.kind e) k)
    where
      is-high : (k : Kind) → is_high k ≡ true → k ≡ High
      is-high High e = refl
      is-high Low e = never e refl
      is-high Request e = never e refl
      is-high Answer e = never e refl
  named_event e (wanted_request w k) =
      let p = is-wanted e w in
      guide-wanted l x p.0 e p.1 p.2 ∙ ap (λ (k : Kind). by_kind l k e x) (is-request (l.chart.kind e) k)
  named_event e (wanted_answer j w p) = guide-answer j e w ∙ ap (answer_or l j e x) (possible-zero j e p)
  named_event e (toward_answer j a d w n s) =
      let q : low_distance l j (to_answer l j a) x ≡ some (suc d) = near-distance l (over-answer l M.formed j a) x (suc d) (fit (low l j)) n in
      guide-answer j a w ∙ ap (answer_or l j a x) q ∙ ap named (is-lowest l (over-answer l M.formed j a) x d e q s)
  named_event e (other_answer j a w f s) =
      let z : low_distance l j (to_any_answer l j) x ≡ some 0 = dist-goal (to_any_answer l j) (size l (low l j)) x (size-pos l (low l j) x (fit (low l j)))
      (any-from _ _ e (answer-below j e s.enabled) s.enabled) in
      guide-answer j a w ∙ ap (answer_or l j a x) (word_none j a f) ∙
      ap (λ (o : Option ℕ). toward (to_any_answer l j) o x (named (first l.chart.events (answer_enabled l j x)))) z ∙
      ap named (is-first _ _ e (record { within = answer-below j e s.enabled; holds = s.enabled; before = s.lowest }))
  named_event e (toward_other j a d w f n s) =
      let q : low_distance l j (to_any_answer l j) x ≡ some (suc d) = near-distance l (over_any l M.formed j) x (suc d) (fit (low l j)) n in
      guide-answer j a w ∙ ap (answer_or l j a x) (word_none j a f) ∙
      is-toward (to_any_answer l j) d (low_distance l j (to_any_answer l j) x) x (named (first l.chart.events (answer_enabled l j x))) e q (is-lowest l (over_any l M.formed j) x d e q s)
  named_event e (toward_rest j d m u n s) =
      let h : high_distance l x ≡ some 0 = dist-goal (high_automaton l) (size l (high l)) x (size-pos l (high l) x (fit (high l))) m in
      let q : low_distance l j (to_rest l j) x ≡ some (suc d) = near-distance l (over-rest l M.formed j u.level) x (suc d) (fit (low l j)) n in
      ap (λ (o : Option ℕ). by_distance l o x) h ∙ ap (λ (o : Option ℕ). homeward l o x) (is-unrested j u) ∙
      is-toward (to_rest l j) d (low_distance l j (to_rest l j) x) x NoEvent e q (is-lowest l (over-rest l M.formed j u.level) x d e q s)

  -- which of the three answers
  answers : (g : Guidance) → guide l x ≡ g → marked l (flat l) x ≡ false → ((e : ℕ) → Names l x e → ⊥) → guide l x ≡ NoEvent
  answers Home q m f = never (home_marked l x q) m
  answers NoEvent q m f = q
  answers (Event e) q m f = absurd (f e (event_named e q))

  pub ruled : Ruled l x
  ruled = record {
    event_named = event_named;
    named_event = named_event;
    one_event = λ d e m n. same-event d e (sym (named_event d m) ∙ named_event e n);
    home_marked = home_marked l x;
    marked_home = marked_home l x v;
    no_event = λ q e n. event-is (sym q ∙ named_event e n);
    only_then = answers (guide l x) refl;
  }

pub keeps-rule : KeepsRule
keeps-rule = ruled
