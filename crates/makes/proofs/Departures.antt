-- Where a body departs from its make. Assumes nothing.
use Rattle.std.proofs.Common.{◌≡◌, ℕ, ◌+◌, ◌*◌, ◌<◌, ◌≤◌, Bool, true, false, not, eqb, ◌⊎◌, List, length, get_or, Ok, Err, Some, None, Option, refl, sym, ap, ◌∙◌, subst, inl, inr, arith}
use Rattle.std.proofs.lemmas.Bool.Decides.{nat_tests}
use Rattle.std.proofs.lemmas.Bool.{eq-eqb, ne_eqb, eqb-true, and_parts, cases_Bool, cases_eq, cases_lt, not-true, not-false}
use Rattle.std.specs.Option.{unwrap_or}
use Rattle.model.proofs.Places.{first_off-is}
use Rattle.model.specs.Numbers.{all}
use Rattle.model.specs.Readings.{first_off, or_bound}
use Rattle.model.specs.declared.fault.Fault.TheVariants.{Body}
use Rattle.model.proofs.Finds.{first-or, all_from, all-at, never}
use Rattle.makes.specs.Shapes.{Shape, shape_in, table_in, counter_in, stock_in}
use Rattle.makes.specs.Bodies.{body_fits, body_size, body_reading, departure, is_whole, table_fits, counter_fits, stock_fits}

pub record OffAt (n : ℕ) (p : ℕ → Bool) (i : ℕ) : Type 0 where
  pub within : i ≤ n
  pub before : (k : ℕ) → k < i → p k ≡ true
  pub off : i < n → p i ≡ false

-- what the first place that does not pass is
pub off_at : (n : ℕ) (p : ℕ → Bool) → OffAt n p (first_off n p)
unfolding first_off
off_at n p =
    elim (first-or n (λ k. not (p k))) [
      | inl r ↦ subst (λ i. OffAt n p i) (sym (ap (or_bound n) r.1)) (record {
        within = omega (arith, r.2.within);
        before = λ k h. not-false (p k) (r.2.before k h);
        off = λ h. not-true (p r.0) r.2.holds;
      })
      | inr r ↦ subst (λ i. OffAt n p i) (sym (ap (or_bound n) r.0)) (record {
        within = omega arith;
        before = λ k h. not-false (p k) (r.1 k h);
        off = λ h. absurd (omega arith);
      })
    ]

module _ (E : ℕ) (body : List ℕ) where
  -- the tests by the letter
  pub fits-table : (i : ℕ) → get_or body 0 0 ≡ 84 → body_fits E body i ≡ table_fits E body i
  unfolding body_fits
  fits-table i h = rw (eq-eqb (get_or body 0 0) 84 h)

  pub fits-counter : (i : ℕ) → get_or body 0 0 ≡ 67 → body_fits E body i ≡ counter_fits E body i
  unfolding body_fits
  fits-counter i h = rw (ne_eqb (get_or body 0 0) 84 (λ e. omega arith), eq-eqb (get_or body 0 0) 67 h)

  pub fits-stock : (i : ℕ) → get_or body 0 0 ≡ 73 → body_fits E body i ≡ stock_fits E body i
  unfolding body_fits
  fits-stock i h =
      rw (ne_eqb (get_or body 0 0) 84 (λ e. omega arith), ne_eqb (get_or body 0 0) 67 (λ e. omega arith), eq-eqb (get_or body 0 0) 73 h)

  -- the parts by the letter
  pub shape-table : get_or body 0 0 ≡ 84 → shape_in E body ≡ table_in E body
  unfolding shape_in
  shape-table h = rw (eq-eqb (get_or body 0 0) 84 h)

  pub shape-counter : get_or body 0 0 ≡ 67 → shape_in E body ≡ counter_in body
  unfolding shape_in
  shape-counter h = rw (ne_eqb (get_or body 0 0) 84 (λ e. omega arith), eq-eqb (get_or body 0 0) 67 h)

  pub shape-stock : (get_or body 0 0 ≡ 84 → ⊥) → (get_or body 0 0 ≡ 67 → ⊥) → shape_in E body ≡ stock_in body
  unfolding shape_in
  shape-stock t c = rw (ne_eqb (get_or body 0 0) 84 t, ne_eqb (get_or body 0 0) 67 c)

  -- no byte fits past the make's size
  table-past : (i : ℕ) → 3 + E + get_or body 1 0 + get_or body 1 0 * E ≤ i → table_fits E body i ≡ false
  table-past i h = grind (arith, nat_tests)

  counter-past : (i : ℕ) → 2 + E ≤ i → counter_fits E body i ≡ false
  counter-past i h = grind (arith, nat_tests)

  stock-past : (i : ℕ) → 6 ≤ i → stock_fits E body i ≡ false
  stock-past i h = grind (arith, nat_tests)

  pub past-size : (i : ℕ) → body_size E body ≤ i → body_fits E body i ≡ false
  unfolding body_fits
  past-size i h =
      elim (cases_eq (get_or body 0 0) 84) [
        | inl t ↦ fits-table i t ∙ table-past i (grind (arith, nat_tests))
        | inr t ↦ elim (cases_eq (get_or body 0 0) 67) [
          | inl c ↦ fits-counter i c ∙ counter-past i (grind (arith, nat_tests))
          | inr c ↦ elim (cases_eq (get_or body 0 0) 73) [
            | inl z ↦ fits-stock i z ∙ stock-past i (grind (arith, nat_tests))
            | inr z ↦ rw (ne_eqb (get_or body 0 0) 84 t, ne_eqb (get_or body 0 0) 67 c, ne_eqb (get_or body 0 0) 73 z)
          ]
        ]
      ]

  off : OffAt (length body) (body_fits E body) (departure E body)
  off = off_at (length body) (body_fits E body)

  -- a body departs at the latest where its make ends
  pub departure-small : departure E body ≤ body_size E body
  departure-small =
      elim (cases_lt (body_size E body) (departure E body)) [
        | inl h ↦ never (off.before (body_size E body) h) (past-size (body_size E body) (omega arith))
        | inr h ↦ h
      ]

  module _ (component : Option ℕ) (origin : ℕ) where
    pub departs : (departure E body < length body) ⊎ (departure E body < body_size E body) →
        Err (Body component (origin + departure E body)) ≡ body_reading component origin E body
    unfolding body_reading
    departs how =
        let broken : is_whole E body ≡ false =
        elim (cases_Bool (is_whole E body)) [
          | inl w ↦
              let p = and_parts (all (length body) (body_fits E body)) (eqb (length body) (body_size E body)) w in
              let size = eqb-true (length body) (body_size E body) p.1 in
              let short : departure E body < length body = elim how [ inl h ↦ h | inr h ↦ omega arith ] in
              never (all-at (length body) (body_fits E body) p.0 (departure E body) short) (off.off short)
          | inr w ↦ w
        ] in
        rw broken

    pub stands : length body ≤ departure E body → body_size E body ≤ departure E body → Ok (shape_in E body) ≡ body_reading component origin E body
    unfolding body_reading
    stands l s =
        let within = off.within in
        let size : length body ≡ body_size E body = omega (arith, departure-small) in
        let fits = all_from (length body) (body_fits E body) (λ k h. off.before k (omega arith)) in
        rw (fits, eq-eqb (length body) (body_size E body) size)

-- what was read
module _ (component : Option ℕ) (origin E : ℕ) (body : List ℕ) (s : Shape) (read : body_reading component origin E body ≡ Ok s) where
  whole : is_whole E body ≡ true
  unfolding body_reading
  whole =
      elim (cases_Bool (is_whole E body)) [
        | inl w ↦ w
        | inr w ↦ let e : Err (Body component (origin + departure E body)) ≡ Ok s = rw w at read in absurd (let z : ◌≡◌ {A = ℕ} 0 1 = cc in omega arith)
      ]

  pub read-shape : s ≡ shape_in E body
  unfolding body_reading
  read-shape = let e : Ok (shape_in E body) ≡ Ok s = rw whole at read in cc

  pub read-size : length body ≡ body_size E body
  read-size = eqb-true (length body) (body_size E body) (and_parts (all (length body) (body_fits E body)) (eqb (length body) (body_size E body)) whole).1

  pub read_fits : (i : ℕ) → i < body_size E body → body_fits E body i ≡ true
  read_fits i h =
      all-at (length body) (body_fits E body) (and_parts (all (length body) (body_fits E body)) (eqb (length body) (body_size E body)) whole).0 i (omega (arith, read-size))

-- the first place that departs, or the end if none does
pub departure-found : (E : ℕ) (body : List ℕ) (o : Option ℕ)
    → ((k : ℕ) → o ≡ Some k → (k < length body) × (body_fits E body k ≡ false) × ((i : ℕ) → i < k → body_fits E body i ≡ true))
    → (o ≡ None → (k : ℕ) → k < length body → body_fits E body k ≡ true)
    → unwrap_or o (length body) ≡ departure E body
departure-found E body (Some k) some none =
    let f = some k refl in sym (first_off-is (length body) (body_fits E body) k (omega (arith, f.0)) f.2 (λ _. f.1))
departure-found E body None some none = sym (first_off-is (length body) (body_fits E body) (length body) (omega arith) (none refl) (λ h. absurd (omega arith)))
