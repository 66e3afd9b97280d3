-- The sets that the event rows give. Assumes nothing.
use Rattle.std.proofs.Common.{◌≡◌, ℕ, ◌+◌, ◌-◌, ◌*◌, ◌%◌, ◌<◌, ◌≤◌, Bool, true, false, ◌&&◌, ◌||◌, eqb, ltb, ◌⊎◌, List, length, get_or, take, drop, replicate, Ok, Err, sym, refl, ap, ◌∙◌, ap₂, inl, inr, arith, below_more}
use Rattle.std.proofs.lemmas.List.{get_or-drop, get_or-replicate, take_rest, drop-drop}
use Rattle.std.proofs.lemmas.Bool.{cases_lt, cases_eq}
use Rattle.std.proofs.lemmas.Bool.Decides.{nat_tests}
use Rattle.model.specs.Charts.{is_request, is_answer}
use Rattle.model.specs.Kinds.{is_kind, kind_of}
use Rattle.model.specs.Readings.{provided}
use Rattle.model.specs.Sets.{member}
use Rattle.model.specs.declared.fault.Fault.{Fault}
use Rattle.model.specs.declared.fault.Fault.TheVariants.{Event}
use Rattle.model.specs.declared.set.EventSet.{EventSet}
use Rattle.model.proofs.Bitwords.{member-zero}
use Rattle.model.proofs.Places.{first_off-is}
use Rattle.charts.specs.Rows.{owner_fits, is_control, byte_fits, first_wrong}
use Rattle.charts.specs.RowSteps.{row_reading, Added, Gathered, RightBytes}
use Rattle.charts.specs.declared.chart.Sets.{Sets}
use Rattle.charts.specs.declared.chart.rows.Row.{Row}

-- a reading under three tests
three-ok : {X : Type 0} (a b d : Bool) (f g h : Fault) (x y : X) → Ok x ≡ provided a f (provided b g (provided d h (Ok y)))
    → (a ≡ true) × (b ≡ true) × (d ≡ true) × (x ≡ y)
three-ok a b d f g h x y p = grind arith

three-err : {X : Type 0} (a b d : Bool) (f g h : Fault) (y : X) (e : Fault) → Err e ≡ provided a f (provided b g (provided d h (Ok y)))
    → ((a ≡ false) × (e ≡ f)) ⊎ (((a ≡ true) × (b ≡ false) × (e ≡ g)) ⊎ ((a ≡ true) × (b ≡ true) × (d ≡ false) × (e ≡ h)))
three-err a b d f g h y e p = grind arith

-- a set of the numbers below i that pass, with i if it passes
more : (p : ℕ → Bool) (i e : ℕ) → ((ltb e i && p e) || (eqb e i && p i)) ≡ (ltb e (i + 1) && p e)
more p i e = elim (cases_eq e i) [ inl same ↦ rw same (grind (arith, nat_tests)) | inr other ↦ grind (arith, nat_tests) ]

pub owner-le : (n letter owner : ℕ) → owner_fits n letter owner ≡ true → owner ≤ n
owner-le n letter owner h = grind (arith, nat_tests)

module _ (n : ℕ) (rows : List ℕ) (i : ℕ) where
  pub fits-kind : byte_fits n rows (3 * i) ≡ is_kind (get_or rows (3 * i) 0)
  unfolding byte_fits
  fits-kind = let m : 3 * i % 3 ≡ 0 = omega arith in rw m refl

  pub fits-owner : byte_fits n rows (3 * i + 1) ≡ owner_fits n (get_or rows (3 * i) 0) (get_or rows (3 * i + 1) 0)
  unfolding byte_fits
  fits-owner =
      let m : (3 * i + 1) % 3 ≡ 1 = omega arith in
      let d : (3 * i + 1) - 1 ≡ 3 * i = omega arith in
      rw (m, d) refl

  pub fits-control : byte_fits n rows (3 * i + 2) ≡ is_control (get_or rows (3 * i + 2) 0)
  unfolding byte_fits
  fits-control = let m : (3 * i + 2) % 3 ≡ 2 = omega arith in rw m refl

  -- the first row that is left is row i
  row-reading : (rest : List ℕ) (place : ℕ) → rest ≡ drop (3 * i) rows
      → row_reading n (get_or rest 0 0) (get_or rest 1 0) (get_or rest 2 0) place ≡ row_reading n (get_or rows (3 * i) 0) (get_or rows (3 * i + 1) 0) (get_or rows (3 * i + 2) 0) place
  row-reading rest place here =
      let byte : (j : ℕ) → get_or rest j 0 ≡ get_or rows (3 * i + j) 0 = λ j. ap (λ (xs : List ℕ). get_or xs j 0) here ∙ get_or-drop (3 * i) rows j 0 in
      let first : get_or rest 0 0 ≡ get_or rows (3 * i) 0 = byte 0 ∙ ap (λ (k : ℕ). get_or rows k 0) (omega arith) in
      rw (first, byte 1, byte 2) refl

  -- what a row whose bytes are right says
  pub record Says (row : Row) : Type 0 where
    pub first : byte_fits n rows (3 * i) ≡ true
    pub second : byte_fits n rows (3 * i + 1) ≡ true
    pub third : byte_fits n rows (3 * i + 2) ≡ true
    pub kind : row.kind ≡ kind_of (get_or rows (3 * i) 0)
    pub owner : row.owner ≡ get_or rows (3 * i + 1) 0
    pub uncontrollable : row.uncontrollable ≡ eqb (get_or rows (3 * i + 2) 0) 117

  -- the bytes of row i, and what they say
  abbrev letter : ℕ
  letter = get_or rows (3 * i) 0

  abbrev number : ℕ
  number = get_or rows (3 * i + 1) 0

  abbrev control : ℕ
  control = get_or rows (3 * i + 2) 0

  abbrev said : Row
  said = record { kind = kind_of letter; owner = number; uncontrollable = eqb control 117 }

  pub row-says : (rest : List ℕ) (row : Row) (place : ℕ) → rest ≡ drop (3 * i) rows
      → Ok row ≡ row_reading n (get_or rest 0 0) (get_or rest 1 0) (get_or rest 2 0) place → Says row
  row-says rest row place here p =
      let a = three-ok (is_kind letter) (owner_fits n letter number) (is_control control) (Event place) (Event (place + 1)) (Event (place + 2)) row said (p ∙ row-reading rest place here) in
      record {
        first = fits-kind ∙ a.0;
        second = fits-owner ∙ a.1;
        third = fits-control ∙ a.2;
        kind = ap (λ (r : Row). r.kind) a.3;
        owner = ap (λ (r : Row). r.owner) a.3;
        uncontrollable = ap (λ (r : Row). r.uncontrollable) a.3;
      }

  pub right-more : (row : Row) → Says row → RightBytes n rows i → RightBytes n rows (i + 1)
  right-more row s before k h =
      elim (cases_lt k (3 * i)) [
        | inl lt ↦ before k lt
        | inr ge ↦ elim (cases_eq k (3 * i)) [
          | inl e ↦ rw e s.first
          | inr ne ↦ elim (cases_eq k (3 * i + 1)) [
            | inl e ↦ rw e s.second
            | inr nf ↦ (let e : k ≡ 3 * i + 2 = omega arith in rw e s.third)
          ]
        ]
      ]

  -- the sets after the row
  pub gathered-more : (before after : Sets) (row : Row) → Says row → Gathered rows i before → Added before after i row → Gathered rows (i + 1) after
  gathered-more before after row s g a = record {
    owned = λ j e h.
        a.owned j e h
        ∙ ap₂ (λ (x y : Bool). x || (eqb e i && y)) (g.owned j e h) (ap (λ (o : ℕ). eqb o j) s.owner)
        ∙ more (λ k. eqb (get_or rows (3 * k + 1) 0) j) i e;
    requests = λ e.
        a.requests e
        ∙ ap₂ (λ (x y : Bool). x || (eqb e i && y)) (g.requests e) (ap is_request s.kind)
        ∙ more (λ k. is_request (kind_of (get_or rows (3 * k) 0))) i e;
    answers = λ e.
        a.answers e
        ∙ ap₂ (λ (x y : Bool). x || (eqb e i && y)) (g.answers e) (ap is_answer s.kind)
        ∙ more (λ k. is_answer (kind_of (get_or rows (3 * k) 0))) i e;
    uncontrollable = λ e.
        a.uncontrollable e
        ∙ ap₂ (λ (x y : Bool). x || (eqb e i && y)) (g.uncontrollable e) s.uncontrollable
        ∙ more (λ k. eqb (get_or rows (3 * k + 2) 0) 117) i e;
  }

  -- the fault of the row is that of the first wrong byte
  pub row-wrong : (events origin place : ℕ) (rest : List ℕ) (fault : Fault) → i < events → place ≡ origin + 3 * i → RightBytes n rows i → rest ≡ drop (3 * i) rows
      → Err fault ≡ row_reading n (get_or rest 0 0) (get_or rest 1 0) (get_or rest 2 0) place
      → (fault ≡ Event (origin + first_wrong n events rows)) × (first_wrong n events rows < 3 * events)
  unfolding first_wrong
  row-wrong events origin place rest fault lt stands before here p =
      let at : (k : ℕ) → k < 3 * events → ((m : ℕ) → m < k → byte_fits n rows m ≡ true) → byte_fits n rows k ≡ false → fault ≡ Event (origin + k)
      → (fault ≡ Event (origin + first_wrong n events rows)) × (first_wrong n events rows < 3 * events) =
      λ k w q f e.
      let is : first_wrong n events rows ≡ k = first_off-is (3 * events) (byte_fits n rows) k (omega arith) q (λ _. f) in
      (e ∙ ap (λ (m : ℕ). Event (origin + m)) (sym is), omega arith) in
      elim (three-err (is_kind letter) (owner_fits n letter number) (is_control control) (Event place) (Event (place + 1)) (Event (place + 2)) said fault (p ∙ row-reading rest place here)) [
        | inl a ↦ at (3 * i) (omega arith) before (fits-kind ∙ a.0) (a.1 ∙ ap Event stands)
        | inr b ↦ elim b [
          | inl a ↦
              at (3 * i + 1) (omega arith)
              (λ m h. below_more (λ (k : ℕ). byte_fits n rows k ≡ true) (3 * i) before (fits-kind ∙ a.0) m h)
              (fits-owner ∙ a.1) (a.2 ∙ ap Event (omega arith))
          | inr a ↦
              let two : (m : ℕ) → m < 3 * i + 1 → byte_fits n rows m ≡ true = λ m h. below_more (λ (k : ℕ). byte_fits n rows k ≡ true) (3 * i) before (fits-kind ∙ a.0) m h in
              at (3 * i + 2) (omega arith)
              (λ m h. below_more (λ (k : ℕ). byte_fits n rows k ≡ true) (3 * i + 1) two (fits-owner ∙ a.1) m (omega arith))
              (fits-control ∙ a.2) (a.3 ∙ ap Event (omega arith))
        ]
      ]

-- the sets of no row
none_below : (e : ℕ) (b : Bool) → member 0 e ≡ (ltb e 0 && b)
none_below e b = let z = member-zero e in grind (arith, nat_tests)

pub gathered_none : (rows : List ℕ) → Gathered rows 0 (record {
  owned = replicate 9 (record { word = 0 });
  requests = record { word = 0 };
  answers = record { word = 0 };
  uncontrollable = record { word = 0 };
})
gathered_none rows = record {
  owned = λ j e h. ap (λ (s : EventSet). member s.word e) (get_or-replicate 9 j (record { word = 0 }) (record { word = 0 }) (omega arith)) ∙ none_below e (eqb (get_or rows (3 * e + 1) 0) j);
  requests = λ e. none_below e (is_request (kind_of (get_or rows (3 * e) 0)));
  answers = λ e. none_below e (is_answer (kind_of (get_or rows (3 * e) 0)));
  uncontrollable = λ e. none_below e (eqb (get_or rows (3 * e + 2) 0) 117);
}

-- what is left after one row more
pub rest_more : (rows rest : List ℕ) (i : ℕ) → rest ≡ drop (3 * i) rows → take (length rest - 3) (drop 3 rest) ≡ drop (3 * (i + 1)) rows
rest_more rows rest i h = take_rest rest 3 ∙ ap (drop 3) h ∙ drop-drop 3 (3 * i) rows ∙ ap (λ (k : ℕ). drop k rows) (omega arith)
