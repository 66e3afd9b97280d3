-- The measure that falls with each offer that the guide names. Assumes nothing.
use Rattle.std.proofs.Common.{◌≡◌, ℕ, zero, suc, ◌+◌, ◌-◌, ◌*◌, ◌<◌, ◌≤◌, Bool, true, false, cond, not, ◌&&◌, eqb, ◌≢◌, sym, refl, ap, ◌∙◌, subst, ap₂, inl, inr, mul-le-mul_right, arith}
use mathlib.Core.Path.{fun_ext}
use mathlib.Core.Option.{Option, none, some}
use Rattle.std.proofs.lemmas.Bool.{cases_Bool, cases_eq, and_parts, and_from, and_left, and_right, eqb-true, ne_eqb, eq-eqb, not_from_true, not_from_false}
use Rattle.model.specs.Numbers.{any, sum_to}
use Rattle.model.specs.Charts.{IsLevel, is_high, is_answer}
use Rattle.model.specs.Automata.{Automaton, lowest}
use Rattle.model.specs.declared.kind.Kind.{Kind}
use Rattle.model.specs.declared.kind.Kind.TheVariants.{High, Low, Request, Answer}
use Rattle.model.proofs.Finds.{never, any-from, any_some, sum-le, sum_lt, sum_bound, option_cases}
use Rattle.model.proofs.Words.{dist-is, lowers}
use Rattle.hisc.specs.Lines.{Line, State, interface, flat, high, low, interface_alone, possible, Same, Reached}
use Rattle.hisc.specs.Sizes.{size}
use Rattle.hisc.specs.Points.{is_marked, high_automaton, to_rest, to_answer, to_any_answer}
use Rattle.hisc.specs.Guide.{high_distance, low_distance}
use Rattle.hisc.proofs.Walks.{possible-like, low-interface}
use Rattle.hisc.proofs.Codes.{valid, size-pos}
use Rattle.hisc.proofs.Facts.{Facts}
use Rattle.hisc.proofs.Distances.{over-answer, low-like}

pub is_none : Option ℕ → Bool
is_none none = true
is_none (some k) = false

pub cost_of : Option ℕ → ℕ
cost_of none = 0
cost_of (some c) = c

-- sums over the levels 1..n
pub levels-le : (n : ℕ) (f g : ℕ → ℕ) → ((j : ℕ) → 1 ≤ j → j ≤ n → f j ≤ g j) → sum_to n (λ i. f (suc i)) ≤ sum_to n (λ i. g (suc i))
levels-le n f g h = sum-le n (λ i. f (suc i)) (λ i. g (suc i)) (λ i k. h (suc i) (omega arith) (omega arith))

pub levels-lt : (n : ℕ) (f g : ℕ → ℕ) (j : ℕ) → 1 ≤ j → j ≤ n → ((j : ℕ) → 1 ≤ j → j ≤ n → f j ≤ g j) → f j < g j → sum_to n (λ i. f (suc i)) < sum_to n (λ i. g (suc i))
levels-lt n f g zero a b h lt = absurd (omega arith)
levels-lt n f g (suc j) a b h lt = sum_lt n (λ i. f (suc i)) (λ i. g (suc i)) j (omega arith) (λ i k. h (suc i) (omega arith) (omega arith)) lt

module _ (l : Line) where
  -- level j is narrowed: its interface is unmarked, and permits an answer to which no word of L events leads
  abbrev out_of_reach : State → ℕ → ℕ → Bool
  out_of_reach x j a = (is_answer (l.chart.kind a) && possible l (interface_alone l j) x a) && is_none (low_distance l j (to_answer l j a) x)

  pub narrowed : State → ℕ → Bool
  narrowed x j = not (is_marked l (interface j) x) && any l.chart.events (out_of_reach x j)

  -- 1 for a narrowed level other than the skipped one
  pub term : ℕ → State → ℕ → ℕ
  term skip x j = cond (eqb j skip) 0 (cond (narrowed x j) 1 0)

  pub narrowed_count : ℕ → State → ℕ
  narrowed_count skip x = sum_to l.chart.levels (λ i. term skip x (suc i))

  rest_cost : State → ℕ → ℕ
  rest_cost x j = cost_of (low_distance l j (to_rest l j) x)

  pub rest_sum : State → ℕ
  rest_sum x = sum_to l.chart.levels (λ i. rest_cost x (suc i))

  abbrev skip_by : ℕ → Option ℕ → ℕ
  skip_by j none = 0
  skip_by j (some c) = j

  abbrev cost_by : ℕ → Option ℕ → ℕ
  cost_by a none = a
  cost_by a (some c) = c

  abbrev skip_of : Kind → ℕ → State → ℕ
  skip_of High e x = 0
  skip_of Low e x = 0
  skip_of Request e x = 0
  skip_of Answer e x = skip_by (l.chart.owner e) (low_distance l (l.chart.owner e) (to_answer l (l.chart.owner e) e) x)

  abbrev word_cost : Kind → ℕ → State → ℕ
  word_cost High e x = 0
  word_cost Low e x = 0
  word_cost Request e x = 0
  word_cost Answer e x = cost_by (cost_of (low_distance l (l.chart.owner e) (to_any_answer l (l.chart.owner e)) x)) (low_distance l (l.chart.owner e) (to_answer l (l.chart.owner e) e) x)

  abbrev pub full : ℕ → ℕ → ℕ → ℕ → ℕ
  full W k d c = (k * size l (high l) + d) * W + c + 1 + l.chart.levels * (W - 1)

  abbrev by_wanted : ℕ → ℕ → Option ℕ → State → ℕ
  by_wanted W d none x = 0
  by_wanted W d (some e) x = full W (narrowed_count (skip_of (l.chart.kind e) e x) x) d (word_cost (l.chart.kind e) e x)

  abbrev by_high : ℕ → Option ℕ → State → ℕ
  by_high W none x = 0
  by_high W (some zero) x = rest_sum x
  by_high W (some (suc d)) x = by_wanted W d (lowest (high_automaton l) d x) x

  pub measure : ℕ → State → ℕ
  measure W x = by_high W (high_distance l x) x

  -- the measure, case by case
  pub at_zero : (W : ℕ) (x : State) → high_distance l x ≡ some 0 → measure W x ≡ rest_sum x
  unfolding measure
  at_zero W x q = ap (λ (o : Option ℕ). by_high W o x) q

  at-wanted : (W : ℕ) (x : State) (d e : ℕ) → high_distance l x ≡ some (suc d) → lowest (high_automaton l) d x ≡ some e →
      measure W x ≡ full W (narrowed_count (skip_of (l.chart.kind e) e x) x) d (word_cost (l.chart.kind e) e x)
  unfolding measure
  at-wanted W x d e q w = ap (λ (o : Option ℕ). by_high W o x) q ∙ ap (λ (o : Option ℕ). by_wanted W d o x) w

  pub at_high : (W : ℕ) (x : State) (d e : ℕ) → high_distance l x ≡ some (suc d) → lowest (high_automaton l) d x ≡ some e → l.chart.kind e ≡ High → measure W x ≡ full W (narrowed_count 0 x) d 0
  at_high W x d e q w k = at-wanted W x d e q w ∙ ap (λ (k : Kind). full W (narrowed_count (skip_of k e x) x) d (word_cost k e x)) k

  pub at-request : (W : ℕ) (x : State) (d e : ℕ) → high_distance l x ≡ some (suc d) → lowest (high_automaton l) d x ≡ some e → l.chart.kind e ≡ Request → measure W x ≡ full W (narrowed_count 0 x) d 0
  at-request W x d e q w k = at-wanted W x d e q w ∙ ap (λ (k : Kind). full W (narrowed_count (skip_of k e x) x) d (word_cost k e x)) k

  pub at-near : (W : ℕ) (x : State) (d e c : ℕ) → high_distance l x ≡ some (suc d) → lowest (high_automaton l) d x ≡ some e → l.chart.kind e ≡ Answer →
      low_distance l (l.chart.owner e) (to_answer l (l.chart.owner e) e) x ≡ some c → measure W x ≡ full W (narrowed_count (l.chart.owner e) x) d c
  at-near W x d e c q w k n =
      at-wanted W x d e q w ∙ ap (λ (k : Kind). full W (narrowed_count (skip_of k e x) x) d (word_cost k e x)) k ∙
      ap (λ (o : Option ℕ). full W (narrowed_count (skip_by (l.chart.owner e) o) x) d (cost_by (cost_of (low_distance l (l.chart.owner e) (to_any_answer l (l.chart.owner e)) x)) o)) n

  pub at-far : (W : ℕ) (x : State) (d e c : ℕ) → high_distance l x ≡ some (suc d) → lowest (high_automaton l) d x ≡ some e → l.chart.kind e ≡ Answer →
      low_distance l (l.chart.owner e) (to_answer l (l.chart.owner e) e) x ≡ none → low_distance l (l.chart.owner e) (to_any_answer l (l.chart.owner e)) x ≡ some c → measure W x ≡ full W (narrowed_count 0 x) d c
  unfolding cost_of
  at-far W x d e c q w k n f =
      at-wanted W x d e q w ∙ ap (λ (k : Kind). full W (narrowed_count (skip_of k e x) x) d (word_cost k e x)) k ∙
      ap (λ (o : Option ℕ). full W (narrowed_count (skip_by (l.chart.owner e) o) x) d (cost_by (cost_of (low_distance l (l.chart.owner e) (to_any_answer l (l.chart.owner e)) x)) o)) n ∙
      ap (λ (o : Option ℕ). full W (narrowed_count 0 x) d (cost_of o)) f

  -- terms
  pub term-le : (skip : ℕ) (x : State) (j : ℕ) → term skip x j ≤ 1
  unfolding term
  term-le skip x j = go (eqb j skip) (narrowed x j)
    where
      go : (a b : Bool) → cond a 0 (cond b 1 0) ≤ 1
      go true b = omega arith
      go false true = omega arith
      go false false = omega arith

  term-skip-le : (skip : ℕ) (x : State) (j : ℕ) → 1 ≤ j → term skip x j ≤ term 0 x j
  unfolding term
  term-skip-le skip x j p = subst (λ (b : Bool). cond (eqb j skip) 0 (cond (narrowed x j) 1 0) ≤ cond b 0 (cond (narrowed x j) 1 0)) (sym (ne_eqb j 0 (omega arith))) (go (eqb j skip) (cond (narrowed x j) 1 0))
    where
      go : (a : Bool) (n : ℕ) → cond a 0 n ≤ n
      go true n = omega arith
      go false n = omega arith

  pub term-clear : (skip : ℕ) (x : State) (j : ℕ) → narrowed x j ≡ false → term skip x j ≡ 0
  unfolding term
  term-clear skip x j f = ap (λ (b : Bool). cond (eqb j skip) 0 (cond b 1 0)) f ∙ go (eqb j skip)
    where
      go : (a : Bool) → ◌≡◌ {A = ℕ} (cond a 0 0) 0
      go true = refl
      go false = refl

  pub term-skipped : (x : State) (j : ℕ) → term j x j ≡ 0
  unfolding term
  term-skipped x j = ap (λ (b : Bool). cond b 0 (cond (narrowed x j) 1 0)) (eq-eqb _ _ refl)

  pub term-narrowed : (skip : ℕ) (x : State) (j : ℕ) → j ≢ skip → narrowed x j ≡ true → term skip x j ≡ 1
  unfolding term
  term-narrowed skip x j d t = ap (λ (b : Bool). cond b 0 (cond (narrowed x j) 1 0)) (ne_eqb _ _ d) ∙ ap (λ (b : Bool). cond b 1 0) t

  pub term-same : (skip skip' : ℕ) (x y : State) (j : ℕ) → j ≢ skip → j ≢ skip' → narrowed x j ≡ narrowed y j → term skip x j ≡ term skip' y j
  unfolding term
  term-same skip skip' x y j d d' q =
      ap (λ (b : Bool). cond b 0 (cond (narrowed x j) 1 0)) (ne_eqb _ _ d) ∙ ap (λ (b : Bool). cond b 1 0) q ∙
      sym (ap (λ (b : Bool). cond b 0 (cond (narrowed y j) 1 0)) (ne_eqb _ _ d'))

  pub count-skip : (skip : ℕ) (x : State) → narrowed_count skip x ≤ narrowed_count 0 x
  unfolding narrowed_count
  count-skip skip x = levels-le l.chart.levels (term skip x) (term 0 x) (λ j a b. term-skip-le skip x j a)

  pub count-bound : (skip : ℕ) (x : State) → narrowed_count skip x ≤ l.chart.levels
  unfolding narrowed_count
  count-bound skip x = omega (arith, sum_bound l.chart.levels 1 (λ i. term skip x (suc i)) (λ i h. term-le skip x (suc i)))

  pub count-le : (skip skip' : ℕ) (x y : State) → ((j : ℕ) → IsLevel l.chart j → term skip x j ≤ term skip' y j) → narrowed_count skip x ≤ narrowed_count skip' y
  unfolding narrowed_count
  count-le skip skip' x y f = levels-le l.chart.levels (term skip x) (term skip' y) (λ j a b. f j (a, b))

  pub count-lt : (skip skip' : ℕ) (x y : State) (j : ℕ) → IsLevel l.chart j → ((j : ℕ) → IsLevel l.chart j → term skip x j ≤ term skip' y j) → term skip x j < term skip' y j → narrowed_count skip x < narrowed_count skip' y
  unfolding narrowed_count
  count-lt skip skip' x y j v f lt = levels-lt l.chart.levels (term skip x) (term skip' y) j v.0 v.1 (λ j a b. f j (a, b)) lt

  pub rest_lt : (x y : State) (j : ℕ) → IsLevel l.chart j → ((i : ℕ) → IsLevel l.chart i → i ≢ j → low_distance l i (to_rest l i) x ≡ low_distance l i (to_rest l i) y) →
      (k : ℕ) → low_distance l j (to_rest l j) x ≡ some k → low_distance l j (to_rest l j) y ≡ some (suc k) → rest_sum x < rest_sum y
  unfolding rest_sum rest_cost cost_of
  rest_lt x y j v f k p q =
      let here : rest_cost x j < rest_cost y j = (let a : rest_cost x j ≡ k = ap cost_of p in let b : rest_cost y j ≡ suc k = ap cost_of q in omega arith) in
      levels-lt l.chart.levels (rest_cost x) (rest_cost y) j v.0 v.1
      (λ i a b. elim (cases_eq i j) [
        | inl z ↦ subst (λ (m : ℕ). rest_cost x m ≤ rest_cost y m) (sym z) (omega arith)
        | inr z ↦ (let e : rest_cost x i ≡ rest_cost y i = ap cost_of (f i (a, b) z) in omega arith)
      ])
      here

  module _ (F : Facts l) where
    pub narrowed-like : (j : ℕ) → IsLevel l.chart j → (x y : State) → Same l (low l j) x y → narrowed x j ≡ narrowed y j
    unfolding narrowed
    narrowed-like j v x y s =
        let fc : x (interface j) ≡ y (interface j) = s (interface j) (omega (arith, v)) (low-interface l j) in
        let sa : Same l (interface_alone l j) x y = λ c lt i. subst (λ (m : ℕ). x m ≡ y m) (sym (eqb-true _ _ i)) fc in
        ap₂ ◌&&◌ (ap (λ (m : ℕ). not ((l.component (interface j)).marked m)) fc)
        (ap (any l.chart.events) (fun_ext (λ a. ap₂ ◌&&◌ (ap (λ (b : Bool). is_answer (l.chart.kind a) && b) (possible-like l (interface_alone l j) x y a sa)) (ap is_none (low-like l F j (to_answer l j a) (over-answer l F.formed j a) x y s)))))

    pub narrowed-marked : (x : State) (j : ℕ) → is_marked l (interface j) x ≡ true → narrowed x j ≡ false
    unfolding narrowed
    narrowed-marked x j m = and_left _ _ (not_from_true _ m)

    pub narrowed-since : (x : State) (j a : ℕ) → is_marked l (interface j) x ≡ false → a < l.chart.events → l.chart.kind a ≡ Answer → possible l (interface_alone l j) x a ≡ true → low_distance l j (to_answer l j a) x ≡ none → narrowed x j ≡ true
    unfolding narrowed is_none
    narrowed-since x j a u lt k p n =
        and_from _ _ (not_from_false _ u)
        (any-from l.chart.events (out_of_reach x j) a lt
        (and_from _ _ (and_from _ _ (ap is_answer k) p) (ap is_none n)))

    pub not-narrowed : (x : State) (j : ℕ) → ((a : ℕ) → is_answer (l.chart.kind a) ≡ true → possible l (interface_alone l j) x a ≡ true → (d : ℕ) × (low_distance l j (to_answer l j a) x ≡ some d)) → narrowed x j ≡ false
    unfolding narrowed is_none
    not-narrowed x j f =
        elim (cases_Bool (any l.chart.events (out_of_reach x j))) [
          | inl t ↦
              let r = any_some l.chart.events (out_of_reach x j) t in
              let q = and_parts _ _ r.2 in
              let q' = and_parts _ _ q.0 in
              let g = f r.0 q'.0 q'.1 in
              never q.1 (ap is_none g.1)
          | inr u ↦ and_right _ _ u
        ]

    -- the upper bound: one more unit of the high distance is worth a whole low walk
    module _ (W : ℕ) (wide : (j : ℕ) → IsLevel l.chart j → size l (low l j) ≤ W) where
      low-below-W : (j : ℕ) → IsLevel l.chart j → (h : Automaton State) (x : State) → 0 < W → cost_of (low_distance l j h x) < W
      unfolding cost_of low_distance
      low-below-W j v h x p =
          elim (option_cases (low_distance l j h x)) [
            | inl r ↦
                let q : cost_of (low_distance l j h x) ≡ r.0 = ap cost_of r.1 in
                let d = dist-is h (size l (low l j)) r.0 x r.1 in
                omega (arith, q, d.0, wide j v)
            | inr n ↦ (let q : cost_of (low_distance l j h x) ≡ 0 = ap cost_of n in omega arith)
          ]

      pub W-pos : (x : State) → Reached l (flat l) x → 0 < W
      W-pos x r = omega (arith, wide 1 (omega arith, F.charted.some_level), size-pos l (low l 1) x (λ c lt i. valid l F.formed (flat l) r c lt refl))

      rest-bound : (x : State) → 0 < W → rest_sum x ≤ l.chart.levels * (W - 1)
      unfolding rest_sum rest_cost
      rest-bound x p = sum_bound l.chart.levels (W - 1) (λ i. rest_cost x (suc i)) (λ i h. omega (arith, low-below-W (suc i) (omega arith, omega arith) (to_rest l (suc i)) x p))

      cost-below : (x : State) (e : ℕ) → e < l.chart.events → 0 < W → word_cost (l.chart.kind e) e x < W
      unfolding cost_of
      cost-below x e lt p = go (l.chart.kind e) refl
        where
          go : (k : Kind) → l.chart.kind e ≡ k → word_cost k e x < W
          go High q = p
          go Low q = p
          go Request q = p
          go Answer q =
              let v = F.charted.low_owner e lt (ap is_high q) in
              let any' = low-below-W (l.chart.owner e) v (to_any_answer l (l.chart.owner e)) x p in
              let one = low-below-W (l.chart.owner e) v (to_answer l (l.chart.owner e) e) x p in
              pick (low_distance l (l.chart.owner e) (to_answer l (l.chart.owner e) e) x) (cost_of (low_distance l (l.chart.owner e) (to_any_answer l (l.chart.owner e)) x)) any' one
            where
              pick : (o : Option ℕ) (a : ℕ) → a < W → cost_of o < W → cost_by a o < W
              pick none a h g = h
              pick (some c) a h g = g

      pub upper : (x : State) → Reached l (flat l) x → (D K : ℕ) → high_distance l x ≡ some D → narrowed_count 0 x ≤ K → measure W x ≤ (K * size l (high l) + D) * W + l.chart.levels * (W - 1)
      unfolding high_distance
      upper x r zero K q s = omega (arith, at_zero W x q, rest-bound x (W-pos x r))
      upper x r (suc d) K q s =
          let w = lowers (high_automaton l) (size l (high l)) d x q in
          let m = at-wanted W x d w.0 q w.1 in
          let sk : ℕ = skip_of (l.chart.kind w.0) w.0 x in
          let c = cost-below x w.0 w.2.below (W-pos x r) in
          let k : narrowed_count sk x ≤ K = omega (arith, count-skip sk x) in
          let k2 = mul-le-mul_right (size l (high l)) k in
          let k3 : narrowed_count sk x * size l (high l) + d ≤ K * size l (high l) + d = omega arith in
          let k4 = mul-le-mul_right W k3 in
          omega (arith, m, c, k4)
