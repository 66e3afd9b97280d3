-- The guide names an accepted event that lowers the measure, or says home. Assumes nothing.
use Rattle.std.proofs.Common.{◌≡◌, ℕ, zero, suc, ◌+◌, ◌-◌, ◌*◌, ◌<◌, ◌≤◌, true, false, ◌≢◌, ◌⊎◌, sym, refl, ap, ◌∙◌, subst, inl, inr, mul-le-mul_right, arith}
use mathlib.Core.Option.{Option, none, some}
use native.Mathlib.Nat.{le-max_left, le-max_right}
use Rattle.std.proofs.lemmas.Bool.{false_from_ne_true, cases_eq, and_parts, leb-true, not-true}
use Rattle.model.specs.Numbers.{any, first}
use Rattle.model.specs.Generators.{forbids}
use Rattle.model.specs.Charts.{IsLevel, is_high, is_low, is_answer}
use Rattle.model.specs.Automata.{lowest}
use Rattle.model.specs.declared.kind.Kind.{Kind}
use Rattle.model.specs.declared.kind.Kind.TheVariants.{High, Low, Request, Answer}
use Rattle.model.proofs.Finds.{never, none≢some, first_some, first-is, option_cases}
use Rattle.model.proofs.Finds as finds
use Rattle.model.proofs.Words.{dist-is, Lowers, lowers}
use Rattle.hisc.specs.declared.guide.Guidance.TheVariants.{Home, NoEvent, Event}
use Rattle.hisc.specs.Lines.{Line, State, plant, supervisor, interface, flat, high, low, interface_alone, moved, possible, marked, Same, Reached, step}
use Rattle.hisc.specs.Sizes.{greatest, size, largest_low, bound}
use Rattle.hisc.specs.Points.{is_marked, at_rest, low_enabled, answer_enabled, high_automaton, to_rest, to_answer, to_any_answer}
use Rattle.hisc.specs.Guide.{named, toward, high_distance, low_distance, answer_or, by_kind, wanted, not_at_rest, homeward, by_distance, guide}
use Rattle.hisc.specs.Law.{HomeWithin, there, onward}
use Rattle.hisc.proofs.Walks.{possible-alphabet, possible-at, possible-make, marked-at, low-each, high-each, low-interface, high-interface, same-sym, still, high-unknown, low-unknown, low-to-alone, to_low, to_high, unknown-free, permits-free, accept}
use Rattle.hisc.proofs.Facts.{is-answer, answer≢request, low_below, low_owner, low-other, low-not-high, alone-answer, alone-request, low-own, high-answer, alone-from, low_enabled-parts, Facts}
use Rattle.hisc.proofs.Distances.{over-rest, low-like, high-like, lowest-high, high-some, rest_some, answer-some, answer-before, any_some}
use Rattle.hisc.proofs.Measure.{measure, full, narrowed_count, term, narrowed, term-le, term-clear, term-skipped, term-narrowed, term-same, count-le, count-lt, count-bound, rest_lt, at_zero, at_high, at-request, at-near, at-far, narrowed-like, narrowed-marked, narrowed-since, not-narrowed, upper}

D-below : (l : Line) (x : State) (D : ℕ) → high_distance l x ≡ some D → D < size l (high l)
unfolding high_distance
D-below l x D q = (dist-is (high_automaton l) (size l (high l)) D x q).0

-- away from home the guide goes by the kind of the wanted event
pub guide-wanted : (l : Line) (x : State) (d e : ℕ) → high_distance l x ≡ some (suc d) → lowest (high_automaton l) d x ≡ some e → guide l x ≡ by_kind l (l.chart.kind e) e x
unfolding guide
guide-wanted l x d e q w = ap (λ (o : Option ℕ). by_distance l o x) q ∙ ap (λ (o : Option ℕ). wanted l o x) w

module _ (l : Line) (F : Facts l) (W : ℕ) (wide : (j : ℕ) → IsLevel l.chart j → size l (low l j) ≤ W) where
  record Named (x : State) (e : ℕ) : Type 0 where
    accepted : possible l (flat l) x e ≡ true
    falls : measure l W (moved l x e) < measure l W x

  abbrev Outcome : State → Type 0
  Outcome x = (guide l x ≡ Home) ⊎ ((e : ℕ) × (guide l x ≡ Event e) × Named x e)

  module _ (x : State) (r : Reached l (flat l) x) where
    go_on : (e : ℕ) → possible l (flat l) x e ≡ true → Reached l (flat l) (moved l x e)
    go_on e p = step e r p (λ c lt i. refl)

    others : (e i : ℕ) → IsLevel l.chart i → l.chart.owner e ≢ i → Same l (low l i) (moved l x e) x
    others e i v d = same-sym l (low l i) x (moved l x e) (still l (low l i) x e (low-unknown l F.known i e v (low-other l i e d)))

    -- an event that the level of its owner permits is no other level's
    owned : (e : ℕ) → possible l (low l (l.chart.owner e)) x e ≡ true → (i : ℕ) → IsLevel l.chart i → (possible l (low l i) x e ≡ true) ⊎ ((low l i).alphabet e ≡ false)
    owned e p i v =
        elim (cases_eq (l.chart.owner e) i) [
          | inl z ↦ inl (subst (λ (m : ℕ). possible l (low l m) x e ≡ true) z p)
          | inr z ↦ inr (low-other l i e z)
        ]

    -- the terms of all levels, from those of the levels that do not own e and of the one that does
    around : (skip skip' e : ℕ) → ((i : ℕ) → IsLevel l.chart i → l.chart.owner e ≢ i → (i ≢ skip) × (i ≢ skip')) →
        (IsLevel l.chart (l.chart.owner e) → term l skip (moved l x e) (l.chart.owner e) ≤ term l skip' x (l.chart.owner e)) →
        (i : ℕ) → IsLevel l.chart i → term l skip (moved l x e) i ≤ term l skip' x i
    around skip skip' e d own i v =
        elim (cases_eq (l.chart.owner e) i) [
          | inl z ↦ subst (λ (m : ℕ). IsLevel l.chart m → term l skip (moved l x e) m ≤ term l skip' x m) z own v
          | inr z ↦
              let q = term-same l skip skip' (moved l x e) x i (d i v z).0 (d i v z).1 (narrowed-like l F i v (moved l x e) x (others e i v z)) in
              omega (arith, q)
        ]

    zero-apart : (e i : ℕ) → IsLevel l.chart i → l.chart.owner e ≢ i → (i ≢ 0) × (i ≢ 0)
    zero-apart e i v z = (omega (arith, v), omega (arith, v))

    -- the high distance fell to d: the measure is below any at suc d with as much narrowed_count
    high-falls : (d e K : ℕ) → possible l (flat l) x e ≡ true → high_distance l (moved l x e) ≡ some d → narrowed_count l 0 (moved l x e) ≤ K →
        measure l W x ≡ full l W K d 0 → measure l W (moved l x e) < measure l W x
    high-falls d e K p q s m = omega (arith, m, upper l F W wide (moved l x e) (go_on e p) d K q s)

    module _ (d e : ℕ) (q : high_distance l x ≡ some (suc d)) (w : lowest (high_automaton l) d x ≡ some e) (lt : e < l.chart.events)
        (p : possible l (high l) x e ≡ true) (q' : high_distance l (moved l x e) ≡ some d) where
      -- an H event
      case-high : l.chart.kind e ≡ High → Named x e
      case-high k =
          let o = F.charted.high_owner e lt (ap is_high k) in
          let a = accept l F.known x e lt (inl p) (λ j v. inr (low-other l j e (omega (arith, o, v)))) in
          let s = count-le l 0 0 (moved l x e) x (around 0 0 e (zero-apart e) (λ v. absurd (omega (arith, o, v)))) in
          record { accepted = a; falls = high-falls d e (narrowed_count l 0 x) a q' s (at_high l W x d e q w k) }

      -- a request
      case-request : l.chart.kind e ≡ Request → Named x e
      case-request k =
          record { accepted = a; falls = high-falls d e (narrowed_count l 0 x) a q' (count-le l 0 0 (moved l x e) x (around 0 0 e (zero-apart e) (λ _. tight))) (at-request l W x d e q w k) }
        where
          j : ℕ
          j = l.chart.owner e

          v : IsLevel l.chart (l.chart.owner e)
          v = F.charted.low_owner e lt (ap is_high k)

          al : possible l (interface_alone l (l.chart.owner e)) x e ≡ true
          al = alone-from l (high l) (l.chart.owner e) v (high-interface l (l.chart.owner e) v) x e p (alone-request l (l.chart.owner e) e (low-own l e lt) k)

          lo : possible l (low l (l.chart.owner e)) x e ≡ true
          lo =
              let f = F.requests_low (l.chart.owner e) v x (to_low l F.known (l.chart.owner e) v r) e k al in
              possible-make l (low l (l.chart.owner e)) x e (low-own l e lt)
              (λ c b i. low-each l (l.chart.owner e) (λ c. forbids (l.component c) (x c) e ≡ false)
              (permits-free (l.component (plant (l.chart.owner e))) (x (plant (l.chart.owner e))) e f.0)
              (permits-free (l.component (supervisor (l.chart.owner e))) (x (supervisor (l.chart.owner e))) e f.1)
              (possible-at l (high l) x e p (interface (l.chart.owner e)) (omega (arith, v)) (high-interface l (l.chart.owner e) v)) c i)

          a : possible l (flat l) x e ≡ true
          a =
              accept l F.known x e lt (inl p)
              (owned e lo)

          tight : term l 0 (moved l x e) (l.chart.owner e) ≤ term l 0 x (l.chart.owner e)
          tight =
              let n = not-narrowed l F (moved l x e) (l.chart.owner e)
              (λ b ka pa. answer-some l F (moved l x e) (go_on e a) (l.chart.owner e) b
              (F.answers_word (l.chart.owner e) v x (to_low l F.known (l.chart.owner e) v r) e k lo b (is-answer (l.chart.kind b) ka) pa)) in
              omega (arith, term-clear l 0 (moved l x e) (l.chart.owner e) n)

      -- an answer
      module _ (k : l.chart.kind e ≡ Answer) where
        level : IsLevel l.chart (l.chart.owner e)
        level = F.charted.low_owner e lt (ap is_high k)

        al : possible l (interface_alone l (l.chart.owner e)) x e ≡ true
        al = alone-from l (high l) (l.chart.owner e) level (high-interface l (l.chart.owner e) level) x e p (alone-answer l (l.chart.owner e) e (low-own l e lt) k)

        near : Reached l (interface_alone l (l.chart.owner e)) x
        near = low-to-alone l F.known (l.chart.owner e) level (to_low l F.known (l.chart.owner e) level r)

        unmarked : is_marked l (interface (l.chart.owner e)) x ≡ false
        unmarked =
            false_from_ne_true (is_marked l (interface (l.chart.owner e)) x) (λ t. answer≢request k (F.pair_requests (l.chart.owner e) level x near t e al).0)

        case-now : low_distance l (l.chart.owner e) (to_answer l (l.chart.owner e) e) x ≡ some 0 → Named x e
        unfolding low_distance
        case-now c =
            let lo : possible l (low l (l.chart.owner e)) x e ≡ true = (dist-is (to_answer l (l.chart.owner e) e) (size l (low l (l.chart.owner e))) 0 x c).1 in
            let a = accept l F.known x e lt (inl p)
            (owned e lo) in
            let m = (F.pair_answers (l.chart.owner e) level x near unmarked e al).1 in
            let t = term-clear l 0 (moved l x e) (l.chart.owner e) (narrowed-marked l F (moved l x e) (l.chart.owner e) m) in
            let s = count-le l 0 (l.chart.owner e) (moved l x e) x (around 0 (l.chart.owner e) e (λ i v z. (omega (arith, v), omega arith)) (λ v. omega (arith, t))) in
            record { accepted = a; falls = high-falls d e (narrowed_count l (l.chart.owner e) x) a q' s (at-near l W x d e 0 q w k c) }

    -- an L event of level j
    module _ (j : ℕ) (v : IsLevel l.chart j) (e : ℕ) (c : low_enabled l j x e ≡ true) where
      low-possible : possible l (low l j) x e ≡ true
      low-possible = (low_enabled-parts l j x e c).0

      low-owned : l.chart.owner e ≡ j
      low-owned = low_owner l j e (possible-alphabet l (low l j) x e low-possible)

      low-accepted : possible l (flat l) x e ≡ true
      low-accepted =
          accept l F.known x e (low_below l j e (possible-alphabet l (low l j) x e low-possible)) (inr (low-not-high l e (low_enabled-parts l j x e c).1))
          (owned e (subst (λ (m : ℕ). possible l (low l m) x e ≡ true) (sym low-owned) low-possible))

      high-unmoved : Same l (high l) (moved l x e) x
      high-unmoved = same-sym l (high l) x (moved l x e) (still l (high l) x e (high-unknown l F.known e (low-not-high l e (low_enabled-parts l j x e c).1)))

      -- as `around`, at j
      low-around : (skip : ℕ) → ((i : ℕ) → IsLevel l.chart i → j ≢ i → i ≢ skip) → term l skip (moved l x e) j ≤ term l skip x j → narrowed_count l skip (moved l x e) ≤ narrowed_count l skip x
      low-around skip d own =
          count-le l skip skip (moved l x e) x
          (around skip skip e (λ i u z. (d i u (omega (arith, low-owned)), d i u (omega (arith, low-owned)))) (λ _. subst (λ (m : ℕ). term l skip (moved l x e) m ≤ term l skip x m) (sym low-owned) own))

      word-falls : (K K' d k : ℕ) → K' ≤ K → measure l W x ≡ full l W K d (suc k) → measure l W (moved l x e) ≡ full l W K' d k → measure l W (moved l x e) < measure l W x
      word-falls K K' d k s m m' =
          let a = mul-le-mul_right (size l (high l)) s in
          let b : K' * size l (high l) + d ≤ K * size l (high l) + d = omega arith in
          let b' = mul-le-mul_right W b in
          omega (arith, m, m', b')

    module _ (d e : ℕ) (q : high_distance l x ≡ some (suc d)) (w : lowest (high_automaton l) d x ≡ some e) (lt : e < l.chart.events)
        (p : possible l (high l) x e ≡ true) (q' : high_distance l (moved l x e) ≡ some d) (k : l.chart.kind e ≡ Answer) where
      abbrev own : ℕ
      own = l.chart.owner e

      lv : IsLevel l.chart (l.chart.owner e)
      lv = level d e q w lt p q' k

      -- towards the wanted answer
      case-word : (n f : ℕ) → low_distance l own (to_answer l own e) x ≡ some (suc n) → Lowers (to_answer l own e) (size l (low l own)) n x f → Named x f
      unfolding low_distance
      case-word n f c b =
          let hl = high-unmoved own lv f b.enabled in
          let q2 : high_distance l (moved l x f) ≡ some (suc d) = high-like l F (moved l x f) x hl ∙ q in
          let w2 = lowest-high l F d (moved l x f) x hl ∙ w in
          let s = low-around own lv f b.enabled own (λ i u z y. z (sym y)) (omega (arith, term-skipped l (moved l x f) own)) in
          record {
            accepted = low-accepted own lv f b.enabled;
            falls = word-falls own lv f b.enabled (narrowed_count l own x) (narrowed_count l own (moved l x f)) d n s (at-near l W x d e (suc n) q w k c) (at-near l W (moved l x f) d e n q2 w2 k b.then);
          }

      -- no word leads to the wanted answer
      module _ (no_word : low_distance l own (to_answer l own e) x ≡ none) where
        is-narrowed : narrowed l x own ≡ true
        is-narrowed = narrowed-since l F x own e (unmarked d e q w lt p q' k) lt k (al d e q w lt p q' k) no_word

        case-any : (n f : ℕ) → low_distance l own (to_any_answer l own) x ≡ some (suc n) → Lowers (to_any_answer l own) (size l (low l own)) n x f → Named x f
        unfolding low_distance
        case-any n f c b =
            let hl = high-unmoved own lv f b.enabled in
            let q2 : high_distance l (moved l x f) ≡ some (suc d) = high-like l F (moved l x f) x hl ∙ q in
            let w2 = lowest-high l F d (moved l x f) x hl ∙ w in
            let no2 : low_distance l own (to_answer l own e) (moved l x f) ≡ none = elim (option_cases (low_distance l own (to_answer l own e) (moved l x f))) [
              | inl z ↦ none≢some (sym no_word ∙ (answer-before l F x r own e f b.enabled z.0 z.1).1)
              | inr z ↦ z
            ] in
            let one = term-narrowed l 0 x own (omega (arith, lv)) is-narrowed in
            let s = low-around own lv f b.enabled 0 (λ i u z. omega (arith, u)) (omega (arith, term-le l 0 (moved l x f) own, one)) in
            record {
              accepted = low-accepted own lv f b.enabled;
              falls = word-falls own lv f b.enabled (narrowed_count l 0 x) (narrowed_count l 0 (moved l x f)) d n s (at-far l W x d e (suc n) q w k no_word c) (at-far l W (moved l x f) d e n q2 w2 k no2 b.then);
            }

        -- an answer, not the wanted one
        case-other : (a : ℕ) → low_distance l own (to_any_answer l own) x ≡ some 0 → a < l.chart.events → answer_enabled l own x a ≡ true → Named x a
        case-other a c below can = record { accepted = acc; falls = falling }
          where
            lo : possible l (low l own) x a ≡ true
            lo = (and_parts _ _ can).0

            ka : l.chart.kind a ≡ Answer
            ka = is-answer (l.chart.kind a) (and_parts (possible l (low l own) x a) (is_answer (l.chart.kind a)) can).1

            own-a : l.chart.owner a ≡ own
            own-a = low_owner l own a (possible-alphabet l (low l own) x a lo)

            ala : possible l (interface_alone l own) x a ≡ true
            ala = alone-from l (low l own) own lv (low-interface l own) x a lo (alone-answer l own a (possible-alphabet l (low l own) x a lo) ka)

            hi : possible l (high l) x a ≡ true
            hi =
                let t = F.answers_high x (to_high l F.known r) a ka (subst (λ (m : ℕ). possible l (interface_alone l m) x a ≡ true) (sym own-a) ala) in
                possible-make l (high l) x a (high-answer l a below ka)
                (λ c b i. high-each l (λ c. forbids (l.component c) (x c) a ≡ false) (permits-free (l.component 0) (x 0) a t.0) (permits-free (l.component 1) (x 1) a t.1)
                (λ i u. elim (cases_eq own i) [
                  | inl z ↦ subst (λ (m : ℕ). forbids (l.component (interface m)) (x (interface m)) a ≡ false) z (possible-at l (low l own) x a lo (interface own) (omega (arith, lv)) (low-interface l own))
                  | inr z ↦ unknown-free (l.component (interface i)) (x (interface i)) a (low-unknown l F.known i a u (low-other l i a (omega (arith, own-a))) (interface i) (low-interface l i))
                ]) c i)

            acc : possible l (flat l) x a ≡ true
            acc =
                accept l F.known x a below (inl hi)
                (owned a (subst (λ (m : ℕ). possible l (low l m) x a ≡ true) (sym own-a) lo))

            clear : term l 0 (moved l x a) own ≡ 0
            clear =
                term-clear l 0 (moved l x a) own (narrowed-marked l F (moved l x a) own
                (F.pair_answers own lv x (near d e q w lt p q' k) (unmarked d e q w lt p q' k) a ala).1)

            one : term l 0 x own ≡ 1
            one = term-narrowed l 0 x own (omega (arith, lv)) is-narrowed

            less : narrowed_count l 0 (moved l x a) < narrowed_count l 0 x
            less =
                count-lt l 0 0 (moved l x a) x own lv
                (around 0 0 a (zero-apart a) (λ _. subst (λ (m : ℕ). term l 0 (moved l x a) m ≤ term l 0 x m) (sym own-a) (omega (arith, clear, one))))
                (omega (arith, clear, one))

            falling : measure l W (moved l x a) < measure l W x
            falling =
                let D = high-some l F (moved l x a) (go_on a acc) in
                let b = D-below l (moved l x a) D.0 D.1 in
                let u = upper l F W wide (moved l x a) (go_on a acc) D.0 (narrowed_count l 0 (moved l x a)) D.1 (omega arith) in
                let m = at-far l W x d e 0 q w k no_word c in
                let s1 = mul-le-mul_right (size l (high l)) less in
                let s2 : narrowed_count l 0 (moved l x a) * size l (high l) + D.0 ≤ narrowed_count l 0 x * size l (high l) + d = omega (arith, s1, b) in
                let s3 = mul-le-mul_right W s2 in
                omega (arith, u, m, s3)

    -- homeward
    case-home : (j : ℕ) → IsLevel l.chart j → high_distance l x ≡ some 0 → (n f : ℕ) → low_distance l j (to_rest l j) x ≡ some (suc n) → Lowers (to_rest l j) (size l (low l j)) n x f → Named x f
    unfolding low_distance
    case-home j v q n f c b =
        let hl = high-unmoved j v f b.enabled in
        let q2 : high_distance l (moved l x f) ≡ some 0 = high-like l F (moved l x f) x hl ∙ q in
        let o = low-owned j v f b.enabled in
        let s = rest_lt l (moved l x f) x j v (λ i u z. low-like l F i (to_rest l i) (over-rest l F.formed i u) (moved l x f) x (others f i u (omega (arith, o)))) n b.then c in
        record { accepted = low-accepted j v f b.enabled; falls = omega (arith, at_zero l W x q, at_zero l W (moved l x f) q2, s) }

    -- what the guide says
    step-answer : (d e : ℕ) → high_distance l x ≡ some (suc d) → lowest (high_automaton l) d x ≡ some e → e < l.chart.events → possible l (high l) x e ≡ true →
        high_distance l (moved l x e) ≡ some d → l.chart.kind e ≡ Answer → (f : ℕ) × (by_kind l Answer e x ≡ Event f) × Named x f
    step-answer d e q w lt p q' k =
        elim (option_cases (low_distance l (l.chart.owner e) (to_answer l (l.chart.owner e) e) x)) [
          | inl c ↦ word c.0 c.1
          | inr c ↦
              let a = any_some l F x r (l.chart.owner e) (level d e q w lt p q' k) (unmarked d e q w lt p q' k) in
              else-any c a.0 a.1
        ]
      where
        word : (n : ℕ) → low_distance l (l.chart.owner e) (to_answer l (l.chart.owner e) e) x ≡ some n → (f : ℕ) × (by_kind l Answer e x ≡ Event f) × Named x f
        word zero c = (e, ap (answer_or l (l.chart.owner e) e x) c, case-now d e q w lt p q' k c)
        word (suc n) c =
            let b = lowers (to_answer l (l.chart.owner e) e) (size l (low l (l.chart.owner e))) n x (unfold low_distance in c) in
            (b.0, ap (answer_or l (l.chart.owner e) e x) c ∙ ap named b.1, case-word d e q w lt p q' k n b.0 c b.2)

        else-any : low_distance l (l.chart.owner e) (to_answer l (l.chart.owner e) e) x ≡ none → (n : ℕ) → low_distance l (l.chart.owner e) (to_any_answer l (l.chart.owner e)) x ≡ some n → (f : ℕ) × (by_kind l Answer e x ≡ Event f) × Named x f
        else-any nw zero c =
            let g : any l.chart.events (answer_enabled l (l.chart.owner e) x) ≡ true = (dist-is (to_any_answer l (l.chart.owner e)) (size l (low l (l.chart.owner e))) 0 x (unfold low_distance in c)).1 in
            let i = finds.any_some _ _ g in
            let b = first_some _ _ i.0 i.1 i.2 in (
              b.0,
              ap (answer_or l (l.chart.owner e) e x) nw ∙
                  ap (λ (o : Option ℕ). toward (to_any_answer l (l.chart.owner e)) o x (named (first l.chart.events (answer_enabled l (l.chart.owner e) x)))) c ∙ ap named b.1,
              case-other d e q w lt p q' k nw b.0 c b.2.within b.2.holds,
            )
        else-any nw (suc n) c =
            let b = lowers (to_any_answer l (l.chart.owner e)) (size l (low l (l.chart.owner e))) n x (unfold low_distance in c) in (
              b.0,
              ap (answer_or l (l.chart.owner e) e x) nw ∙
                  ap (λ (o : Option ℕ). toward (to_any_answer l (l.chart.owner e)) o x (named (first l.chart.events (answer_enabled l (l.chart.owner e) x)))) c ∙ ap named b.1,
              case-any d e q w lt p q' k nw n b.0 c b.2,
            )

    step-high : (d : ℕ) → high_distance l x ≡ some (suc d) → Outcome x
    step-high d q =
        let b = lowers (high_automaton l) (size l (high l)) d x (unfold high_distance in q) in
        inr (by (l.chart.kind b.0) b.0 refl b.1 b.2.below b.2.enabled (unfold high_distance in b.2.then))
      where
        by : (k : Kind) (e : ℕ) → l.chart.kind e ≡ k → lowest (high_automaton l) d x ≡ some e → e < l.chart.events → possible l (high l) x e ≡ true →
            high_distance l (moved l x e) ≡ some d → (f : ℕ) × (guide l x ≡ Event f) × Named x f
        by High e k w lt p q' = (e, guide-wanted l x d e q w ∙ ap (λ (k : Kind). by_kind l k e x) k, case-high d e q w lt p q' k)
        by Low e k w lt p q' = never (possible-alphabet l (high l) x e p) (low-not-high l e (ap is_low k))
        by Request e k w lt p q' = (e, guide-wanted l x d e q w ∙ ap (λ (k : Kind). by_kind l k e x) k, case-request d e q w lt p q' k)
        by Answer e k w lt p q' =
            let s = step-answer d e q w lt p q' k in
            (s.0, guide-wanted l x d e q w ∙ ap (λ (k : Kind). by_kind l k e x) k ∙ s.1, s.2)

    step-home : high_distance l x ≡ some 0 → Outcome x
    unfolding guide high_distance
    step-home q =
        let g : guide l x ≡ homeward l (first (suc l.chart.levels) (not_at_rest l x)) x = ap (λ (o : Option ℕ). by_distance l o x) q in
        elim (option_cases (first (suc l.chart.levels) (not_at_rest l x))) [
          | inl j ↦
              let f = first-is (suc l.chart.levels) (not_at_rest l x) j.0 j.1 in
              let u = and_parts _ _ f.holds in
              let v : IsLevel l.chart j.0 = (leb-true _ _ u.0, omega (arith, f.within)) in
              let m : marked l (high l) x ≡ true = (dist-is (high_automaton l) (size l (high l)) 0 x q).1 in
              let h = rest_some l F x r j.0 v (marked-at l (high l) x m (interface j.0) (omega (arith, v)) (high-interface l j.0 v)) in
              inr (at j.0 v (not-true _ u.1) (g ∙ ap (λ (o : Option ℕ). homeward l o x) j.1) h.0 h.1)
          | inr n ↦ inl (g ∙ ap (λ (o : Option ℕ). homeward l o x) n)
        ]
      where
        at : (j : ℕ) → IsLevel l.chart j → at_rest l j x ≡ false → guide l x ≡ homeward l (some j) x → (n : ℕ) → low_distance l j (to_rest l j) x ≡ some n → (f : ℕ) × (guide l x ≡ Event f) × Named x f
        at j v u g zero c = never (dist-is (to_rest l j) (size l (low l j)) 0 x (unfold low_distance in c)).1 u
        at j v u g (suc n) c =
            let b = lowers (to_rest l j) (size l (low l j)) n x (unfold low_distance in c) in
            (b.0, g ∙ ap (λ (o : Option ℕ). toward (to_rest l j) o x NoEvent) c ∙ ap named b.1, case-home j v q n b.0 c b.2)

    outcome : Outcome x
    outcome = let D = high-some l F x r in by D.0 D.1
      where
        by : (D : ℕ) → high_distance l x ≡ some D → Outcome x
        by zero q = step-home q
        by (suc d) q = step-high d q

  follow : (m : ℕ) (x : State) → Reached l (flat l) x → measure l W x ≤ m → HomeWithin l m x
  follow zero x r b = elim (outcome x r) [ inl h ↦ there h | inr s ↦ absurd (omega (arith, s.2.falls)) ]
  follow (suc m) x r b =
      elim (outcome x r) [
        | inl h ↦ there h
        | inr s ↦ onward s.0 s.1 s.2.accepted (follow m (moved l x s.0) (go_on x r s.0 s.2.accepted) (omega (arith, s.2.falls)))
      ]

  in-bound : (x : State) → Reached l (flat l) x → measure l W x ≤ ((l.chart.levels + 1) * (size l (high l) - 1) + l.chart.levels) * W + l.chart.levels * (W - 1)
  in-bound x r =
      let D = high-some l F x r in
      let b = D-below l x D.0 D.1 in
      let u = upper l F W wide x r D.0 l.chart.levels D.1 (count-bound l 0 x) in
      let h : ℕ = size l (high l) - 1 in
      let hs : size l (high l) ≡ suc h = omega (arith, b) in
      let e : l.chart.levels * size l (high l) ≡ l.chart.levels * suc h = ap (λ (m : ℕ). l.chart.levels * m) hs in
      let s : l.chart.levels * size l (high l) + D.0 ≤ (l.chart.levels + 1) * h + l.chart.levels = omega (arith, e, b) in
      omega (arith, u, mul-le-mul_right W s)

-- a low walk is at most as large as the largest
greatest-le : (n : ℕ) (f : ℕ → ℕ) (j : ℕ) → 1 ≤ j → j ≤ n → f j ≤ greatest n f
greatest-le zero f j a b = absurd (omega arith)
greatest-le (suc n) f j a b =
    elim (cases_eq j (suc n)) [
      | inl z ↦ subst (λ (m : ℕ). f m ≤ greatest (suc n) f) (sym z) (le-max_right (greatest n f) (f (suc n)))
      | inr z ↦ omega (arith, greatest-le n f j a (omega arith), le-max_left (greatest n f) (f (suc n)))
    ]

pub largest : (l : Line) (j : ℕ) → IsLevel l.chart j → size l (low l j) ≤ largest_low l
unfolding largest_low
largest l j v = greatest-le l.chart.levels (λ i. size l (low l i)) j v.0 v.1

pub guided : (l : Line) → Facts l → (x : State) → Reached l (flat l) x → HomeWithin l (bound l) x
guided l F x r = follow l F (largest_low l) (largest l) (bound l) x r (in-bound l F (largest_low l) (largest l) x r)
