-- Tests of the numbers below a bound. Assumes nothing.
use Rattle.std.proofs.Common.{◌≡◌, ℕ, zero, suc, ◌*◌, ◌<◌, ◌≤◌, Bool, true, false, cond, ◌≢◌, ◌⊎◌, sym, refl, ap, ◌∙◌, subst, inl, inr, arith}
use mathlib.Core.Option.{Option, none, some}
use Rattle.std.proofs.lemmas.Bool.{both_ways, and_parts, and_from, or_cases, or_left, or_right, cases_Bool, cases_eq, cases_lt}
use Rattle.model.specs.Numbers.{any, all, first, or_else, sum_to}

pub never : {X : Type 0} {b : Bool} → b ≡ true → b ≡ false → X
never {b = b} p q = absurd (both_ways b q p)

pub bool_iff : (a b : Bool) → (a ≡ true → b ≡ true) → (b ≡ true → a ≡ true) → a ≡ b
bool_iff true b f g = sym (f refl)
bool_iff false true f g = g refl
bool_iff false false f g = refl

pub none≢some : {X : Type 0} {k : ℕ} → none ≡ some k → X
none≢some {k = k} p = absurd (let z : ◌≡◌ {A = ℕ} 0 1 = cc in omega arith)

-- a number below suc n is below n or is n
pub below_suc : {X : Type 0} (i n : ℕ) → i < suc n → (i < n → X) → (i ≡ n → X) → X
below_suc i n h f g = elim (cases_lt i n) [ inl k ↦ f k | inr k ↦ g (omega arith) ]

pub any-from : (n : ℕ) (p : ℕ → Bool) (i : ℕ) → i < n → p i ≡ true → any n p ≡ true
any-from zero p i h t = absurd (omega arith)
any-from (suc n) p i h t =
    below_suc i n h
    (λ k. or_left (any n p) (p n) (any-from n p i k t))
    (λ e. or_right (any n p) (p n) (subst (λ (m : ℕ). p m ≡ true) e t))

pub any_some : (n : ℕ) (p : ℕ → Bool) → any n p ≡ true → (i : ℕ) × (i < n) × (p i ≡ true)
any_some zero p t = never t refl
any_some (suc n) p t =
    elim (or_cases (any n p) (p n) t) [
      | inl a ↦ let r = any_some n p a in (r.0, omega (arith, r.1), r.2)
      | inr b ↦ (n, omega arith, b)
    ]

pub all_from : (n : ℕ) (p : ℕ → Bool) → ((i : ℕ) → i < n → p i ≡ true) → all n p ≡ true
all_from zero p f = refl
all_from (suc n) p f = and_from (all n p) (p n) (all_from n p (λ i h. f i (omega arith))) (f n (omega arith))

pub all-at : (n : ℕ) (p : ℕ → Bool) → all n p ≡ true → (i : ℕ) → i < n → p i ≡ true
all-at zero p t i h = absurd (omega arith)
all-at (suc n) p t i h =
    let r = and_parts (all n p) (p n) t in
    below_suc i n h (λ k. all-at n p r.0 i k) (λ e. subst (λ (m : ℕ). p m ≡ true) (sym e) r.1)

pub record IsFirst (n : ℕ) (p : ℕ → Bool) (k : ℕ) : Type 0 where
  pub within : k < n
  pub holds : p k ≡ true
  pub before : (i : ℕ) → i < k → p i ≡ false

-- both answers of `first`
pub first-or : (n : ℕ) (p : ℕ → Bool) →
    ((k : ℕ) × (first n p ≡ some k) × IsFirst n p k) ⊎ ((first n p ≡ none) × ((i : ℕ) → i < n → p i ≡ false))
first-or zero p = inr (refl, λ i h. absurd (omega arith))
first-or (suc n) p =
    elim (first-or n p) [
      | inl r ↦ inl (
        r.0,
        ap (λ (o : Option ℕ). or_else o (cond (p n) (some n) none)) r.1,
        record {
          within = omega (arith, r.2.within);
          holds = r.2.holds;
          before = r.2.before;
        },
      )
      | inr r ↦
          let eq : first (suc n) p ≡ cond (p n) (some n) none = ap (λ (o : Option ℕ). or_else o (cond (p n) (some n) none)) r.0 in
          elim (cases_Bool (p n)) [
            | inl t ↦ inl (
              n,
              eq ∙ ap (λ (b : Bool). cond b (some n) none) t,
              record {
                within = omega arith;
                holds = t;
                before = r.1;
              },
            )
            | inr f ↦ inr (eq ∙ ap (λ (b : Bool). cond b (some n) none) f, λ i h. below_suc i n h (λ k. r.1 i k) (λ e. subst (λ (m : ℕ). p m ≡ false) (sym e) f))
          ]
    ]

pub first-is : (n : ℕ) (p : ℕ → Bool) (k : ℕ) → first n p ≡ some k → IsFirst n p k
first-is n p k e =
    elim (first-or n p) [
      | inl r ↦ (let same : r.0 ≡ k = (let q = r.1 in cc) in subst (λ (m : ℕ). IsFirst n p m) same r.2)
      | inr r ↦ none≢some (sym r.0 ∙ e)
    ]

pub first-none : (n : ℕ) (p : ℕ → Bool) → first n p ≡ none → (i : ℕ) → i < n → p i ≡ false
first-none n p e = elim (first-or n p) [ inl r ↦ none≢some (sym e ∙ r.1) | inr r ↦ r.1 ]

pub first_some : (n : ℕ) (p : ℕ → Bool) (i : ℕ) → i < n → p i ≡ true → (k : ℕ) × (first n p ≡ some k) × IsFirst n p k
first_some n p i h t = elim (first-or n p) [ inl r ↦ r | inr r ↦ never t (r.1 i h) ]

pub is-first : (n : ℕ) (p : ℕ → Bool) (k : ℕ) → IsFirst n p k → first n p ≡ some k
is-first n p k f =
    let r = first_some n p k f.within f.holds in
    elim (cases_lt r.0 k) [
      | inl a ↦ never r.2.holds (f.before r.0 a)
      | inr a ↦ elim (cases_lt k r.0) [
        | inl b ↦ never f.holds (r.2.before k b)
        | inr b ↦ (let same : r.0 ≡ k = omega arith in r.1 ∙ ap some same)
      ]
    ]

pub option_cases : (o : Option ℕ) → ((k : ℕ) × (o ≡ some k)) ⊎ (o ≡ none)
option_cases none = inr refl
option_cases (some k) = inl (k, refl)

-- pigeons: as many different numbers below n as m means m ≤ n
swap : ℕ → ℕ → ℕ → ℕ
swap n v u = elim (cases_eq u n) [ inl e ↦ v | inr e ↦ u ]

swap-cases : (n v u : ℕ) → ((u ≡ n) × (swap n v u ≡ v)) ⊎ ((u ≢ n) × (swap n v u ≡ u))
unfolding swap
swap-cases n v u =
    elim (cases_eq u n) as (λ o. ((u ≡ n) × (elim o as (λ _. ℕ) [ inl e ↦ v | inr e ↦ u ] ≡ v)) ⊎ ((u ≢ n) × (elim o as (λ _. ℕ) [ inl e ↦ v | inr e ↦ u ] ≡ u))) [
      | inl e ↦ inl (e, refl)
      | inr e ↦ inr (e, refl)
    ]

pub pigeons : (n m : ℕ) (f : ℕ → ℕ) → ((i : ℕ) → i < m → f i < n) → ((i j : ℕ) → i < j → j < m → f i ≢ f j) → m ≤ n
pigeons zero m f below apart = elim (cases_lt 0 m) [ inl h ↦ absurd (omega (arith, below 0 h)) | inr h ↦ h ]
pigeons (suc n) zero f below apart = omega arith
pigeons (suc n) (suc m) f below apart =
    let g : ℕ → ℕ = λ i. swap n (f m) (f i) in
    let rest : m ≤ n = pigeons n m g
    (λ i h.
    let a = below i (omega arith) in
    let b = below m (omega arith) in
    let d = apart i m h (omega arith) in
    elim (swap-cases n (f m) (f i)) [
      | inl r ↦ omega (arith, r.0, r.1, d, a, b)
      | inr r ↦ omega (arith, r.0, r.1, d, a, b)
    ])
    (λ i j h k.
    let d = apart i j h (omega arith) in
    let di = apart i m (omega arith) (omega arith) in
    let dj = apart j m (omega arith) (omega arith) in
    elim (swap-cases n (f m) (f i)) [
      | inl r ↦ elim (swap-cases n (f m) (f j)) [ inl s ↦ omega (arith, r, s, d, di, dj) | inr s ↦ omega (arith, r, s, d, di, dj) ]
      | inr r ↦ elim (swap-cases n (f m) (f j)) [ inl s ↦ omega (arith, r, s, d, di, dj) | inr s ↦ omega (arith, r, s, d, di, dj) ]
    ]) in
    omega arith

-- sums
pub sum-cong : (n : ℕ) (f g : ℕ → ℕ) → ((i : ℕ) → i < n → f i ≡ g i) → sum_to n f ≡ sum_to n g
sum-cong zero f g h = refl
sum-cong (suc n) f g h = omega (arith, sum-cong n f g (λ i k. h i (omega arith)), h n (omega arith))

pub sum-le : (n : ℕ) (f g : ℕ → ℕ) → ((i : ℕ) → i < n → f i ≤ g i) → sum_to n f ≤ sum_to n g
sum-le zero f g h = omega arith
sum-le (suc n) f g h = omega (arith, sum-le n f g (λ i k. h i (omega arith)), h n (omega arith))

-- lower at one place, and nowhere higher
pub sum_lt : (n : ℕ) (f g : ℕ → ℕ) (j : ℕ) → j < n → ((i : ℕ) → i < n → f i ≤ g i) → f j < g j → sum_to n f < sum_to n g
sum_lt zero f g j h le lt = absurd (omega arith)
sum_lt (suc n) f g j h le lt =
    below_suc j n h
    (λ k. omega (arith, sum_lt n f g j k (λ i q. le i (omega arith)) lt, le n (omega arith)))
    (λ e. let last : f n < g n = subst (λ (m : ℕ). f m < g m) e lt in omega (arith, sum-le n f g (λ i q. le i (omega arith))))

pub sum_bound : (n b : ℕ) (f : ℕ → ℕ) → ((i : ℕ) → i < n → f i ≤ b) → sum_to n f ≤ n * b
sum_bound zero b f h = omega arith
sum_bound (suc n) b f h = omega (arith, sum_bound n b f (λ i k. h i (omega arith)), h n (omega arith))
