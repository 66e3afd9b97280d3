-- The meaning of a body that was read is what its bytes say. Assumes nothing.
use Rattle.std.proofs.Common.{◌≡◌, ℕ, ◌+◌, ◌-◌, ◌*◌, ◌%◌, ◌<◌, ◌≤◌, Bool, true, false, not, ◌||◌, eqb, ltb, ◌≢◌, ◌⊎◌, List, [], ◌∷◌, length, get_or, take, drop, sym, refl, ap, ◌∙◌, subst, inl, inr, mul_comm, arith}
use Rattle.std.proofs.lemmas.Bool.Decides.{nat_tests}
use Rattle.std.proofs.lemmas.List.{get_or-take, get_or-drop, get_or_past, get_or_default, length-take-le, length-drop}
use Rattle.std.proofs.lemmas.Bool.{eqb-true, lt-ltb, le-ltb, and_right, cases_eq}
use Rattle.std.proofs.lemmas.Nat.{mul-add-lt, mod-mul-add}
use Rattle.model.specs.declared.next.Next.TheVariants.{Forbidden, To}
use Rattle.model.proofs.Finds.{any-from}
use Rattle.makes.specs.Letters.{is_not, is_known, is_mark, is_step}
use Rattle.makes.specs.Shapes.{Shape, stock, table_in, counter_in, stock_in}
use Rattle.makes.specs.Bodies.{table_fits, counter_fits, stock_fits, target_fits}
use Rattle.makes.specs.Meanings.{gen_of, counted, reply, table_initial, table_knows, table_marks, table_target, table_next, counter_knows, step_permitted, stepped, counter_next, stock_knows, stock_next}
use Rattle.makes.specs.Laws.{TablePlain, CounterPlain, StockPlain, Tables-plain, Counters-plain, Stocks-plain, target_byte}
use Rattle.makes.proofs.Departures.{fits-table, fits-counter, fits-stock, shape-table, shape-counter, shape-stock, read-shape, read-size, read_fits}

-- a byte of a part
part_at : (m n : ℕ) (body : List ℕ) (k : ℕ) → k < n → get_or (take n (drop m body)) k 0 ≡ get_or body (m + k) 0
part_at m n body k h = get_or-take n (drop m body) k 0 h ∙ get_or-drop m body k 0

permitted : (known : Bool) (test : Bool) (t : ℕ) → known ≡ true → test ≡ true → reply known test t ≡ To t
permitted known test t k p = rw (k, p)

forbidden : (known : Bool) (test : Bool) (t : ℕ) → known ≡ true → test ≡ false → reply known test t ≡ Forbidden
forbidden known test t k p = rw (k, p)

-- tables
module _ (E : ℕ) (body : List ℕ) (few : E ≤ 64) (size : length body ≡ 3 + E + get_or body 1 0 + get_or body 1 0 * E)
    (fits : (i : ℕ) → i < length body → table_fits E body i ≡ true) where
  letters : List ℕ
  letters = take E (drop 3 body)

  targets : List ℕ
  targets = drop (3 + E + get_or body 1 0) body

  count-some : (1 ≤ get_or body 1 0) × (get_or body 1 0 ≤ 200)
  count-some = let f = fits 1 (omega arith) in grind (arith, nat_tests)

  count-is : counted (get_or body 1 0) ≡ get_or body 1 0
  count-is = omega (arith, count-some.0, count-some.1)

  initial-is : table_initial (counted (get_or body 1 0)) (get_or body 2 0) ≡ get_or body 2 0
  initial-is =
      let b = fits 2 (omega (arith, count-some.0)) in
      rw (count-is, b)

  letters-length : length letters ≡ E
  unfolding letters
  letters-length = length-take-le E (drop 3 body) (rw (length-drop 3 body) (omega arith))

  knows-is : (e : ℕ) → e < E → table_knows letters e ≡ is_known (get_or body (3 + e) 0)
  unfolding letters
  knows-is e h = rw (lt-ltb e 64 (omega arith), part_at 3 E body e h)

  knows-others : (e : ℕ) → E ≤ e → table_knows letters e ≡ false
  knows-others e h =
      let p : get_or letters e 0 ≡ 0 = get_or_past letters e 0 (omega (arith, letters-length)) in
      rw p (and_right (ltb e 64) false refl)

  marks-is : (s : ℕ) → s < get_or body 1 0 → table_marks (counted (get_or body 1 0)) (take (get_or body 1 0) (drop (3 + E) body)) s ≡ is_mark (get_or body (3 + E + s) 0)
  marks-is s h = rw (count-is, lt-ltb s (get_or body 1 0) h, part_at (3 + E) (get_or body 1 0) body s h)

  module _ (s e : ℕ) (state : s < get_or body 1 0) (event : e < E) where
    within : s * E + e < get_or body 1 0 * E
    within = omega (arith, mul-add-lt s E e (get_or body 1 0) state event, mul_comm (get_or body 1 0) E)

    target_is : table_target letters targets s e ≡ target_byte E body s e
    unfolding targets
    target_is =
        rw (letters-length, get_or-drop (3 + E + get_or body 1 0) body (s * E + e) 255)
        (get_or_default body (3 + E + get_or body 1 0 + (s * E + e)) 255 0 (omega (arith, within)))

    -- what the reader tested of the target
    target-in_range : target_fits (get_or body 1 0) (get_or body (3 + e) 0) (target_byte E body s e) ≡ true
    target-in_range =
        let f = fits (3 + E + get_or body 1 0 + (s * E + e)) (omega (arith, within)) in
        let d : 3 + E + get_or body 1 0 + (s * E + e) - (3 + E + get_or body 1 0) ≡ s * E + e = omega arith in
        let m : (s * E + e) % E ≡ e = mod-mul-add s E e event in
        let g = rw (d, m) at f in
        grind (arith, nat_tests)

    moves-is : target_byte E body s e ≢ 255 → table_next (counted (get_or body 1 0)) letters targets s e ≡ To (target_byte E body s e)
    moves-is some =
        let range = target-in_range in
        let known = knows-is e event in
        grind (arith, nat_tests, target_is, count-is)

    stops-is : target_byte E body s e ≡ 255 → table_knows letters e ≡ true → table_next (counted (get_or body 1 0)) letters targets s e ≡ Forbidden
    stops-is none known = let few_states = count-some.1 in grind (arith, nat_tests, target_is, count-is)

  table-plain : TablePlain E body (gen_of (table_in E body))
  unfolding letters targets
  table-plain = record {
    count = count-is;
    initial = initial-is;
    knows = knows-is;
    others = knows-others;
    marked = marks-is;
    moves = moves-is;
    stops = stops-is;
  }

pub tables-plain : Tables-plain
tables-plain component origin E body s few read letter =
    let t = eqb-true (get_or body 0 0) 84 letter in
    let shape_is : s ≡ table_in E body = read-shape component origin E body s read ∙ shape-table E body t in
    let size = read-size component origin E body s read in
    rw shape_is
    (table-plain E body few (grind (arith, nat_tests, size))
    (λ i h. sym (fits-table E body i t) ∙ read_fits component origin E body s read i (omega arith)))

-- counters
step-or-not : (l : ℕ) → (is_not l || is_step l) ≡ true → is_step l ≡ not (is_not l)
step-or-not l h = grind (arith, nat_tests)

module _ (E : ℕ) (body : List ℕ) (few : E ≤ 64) (size : length body ≡ 2 + E) (fits : (i : ℕ) → i < length body → counter_fits E body i ≡ true) where
  capacity-few : get_or body 1 0 ≤ 199
  capacity-few = let f = fits 1 (omega arith) in grind (arith, nat_tests)

  states-is : counted (get_or body 1 0 + 1) ≡ get_or body 1 0 + 1
  states-is = omega (arith, capacity-few)

  letter-is : (e : ℕ) → get_or (drop 2 body) e 0 ≡ get_or body (2 + e) 0
  letter-is e = get_or-drop 2 body e 0

  step-knows : (e : ℕ) → e < E → counter_knows (drop 2 body) e ≡ is_step (get_or body (2 + e) 0)
  step-knows e h = rw (lt-ltb e 64 (omega arith), letter-is e)

  -- what the reader tested of the letter
  step_fits : (e : ℕ) → e < E → (is_not (get_or body (2 + e) 0) || is_step (get_or body (2 + e) 0)) ≡ true
  step_fits e h = let f = fits (2 + e) (omega arith) in grind (arith, nat_tests)

  step-others : (e : ℕ) → E ≤ e → counter_knows (drop 2 body) e ≡ false
  step-others e h =
      let p : get_or (drop 2 body) e 0 ≡ 0 = letter-is e ∙ get_or_past body (2 + e) 0 (omega arith) in
      rw p (and_right (ltb e 64) false refl)

  at-letter : (s e l : ℕ) → e < E → get_or body (2 + e) 0 ≡ l →
      counter_next (counted (get_or body 1 0 + 1)) (drop 2 body) s e ≡ reply (is_step l) (step_permitted (get_or body 1 0 + 1) l s) (stepped l s)
  at-letter s e l h is = rw (lt-ltb e 64 (omega arith), letter-is e, is, states-is)

  counter-plain : CounterPlain E body (gen_of (counter_in body))
  counter-plain = record {
    count = states-is;
    initial = refl;
    knows = λ e h. step-knows e h ∙ step-or-not (get_or body (2 + e) 0) (step_fits e h);
    others = step-others;
    marked = λ s. refl;
    up = λ s e h u below. at-letter s e 117 h (eqb-true (get_or body (2 + e) 0) 117 u) ∙ rw (lt-ltb (s + 1) (get_or body 1 0 + 1) (omega arith));
    full = λ e h u.
        at-letter (get_or body 1 0) e 117 h (eqb-true (get_or body (2 + e) 0) 117 u) ∙ rw (le-ltb (get_or body 1 0 + 1) (get_or body 1 0 + 1) (omega arith));
    down = λ s e h d below.
        at-letter (s + 1) e 100 h (eqb-true (get_or body (2 + e) 0) 100 d)
        ∙ rw (lt-ltb 0 (s + 1) (omega arith), lt-ltb (s + 1) (get_or body 1 0 + 1) (omega arith)) (ap To (let r : s + 1 - 1 ≡ s = omega arith in r));
    empty = λ e h d. at-letter 0 e 100 h (eqb-true (get_or body (2 + e) 0) 100 d);
    stays = λ s e h t below. at-letter s e 115 h (eqb-true (get_or body (2 + e) 0) 115 t) ∙ rw (lt-ltb s (get_or body 1 0 + 1) (omega arith));
  }

pub counters-plain : Counters-plain
counters-plain component origin E body s few read letter =
    let c = eqb-true (get_or body 0 0) 67 letter in
    let shape_is : s ≡ counter_in body = read-shape component origin E body s read ∙ shape-counter E body c in
    let size = read-size component origin E body s read in
    rw shape_is
    (counter-plain E body few (grind (arith, nat_tests, size))
    (λ i h. sym (fits-counter E body i c) ∙ read_fits component origin E body s read i (omega arith)))

-- stocks
stock-forth : (a b c d e : ℕ) → e < 64 → (e ≡ a) ⊎ (e ≡ b) → e ≢ c → e ≢ d →
    (stock_next (a ∷ (b ∷ (c ∷ (d ∷ [])))) 0 e ≡ To 1) × (stock_next (a ∷ (b ∷ (c ∷ (d ∷ [])))) 1 e ≡ Forbidden)
stock-forth a b c d e h is no-c no-d = (grind (arith, nat_tests), grind (arith, nat_tests))

stock-back : (a b c d e : ℕ) → e < 64 → (e ≡ c) ⊎ (e ≡ d) → e ≢ a → e ≢ b →
    (stock_next (a ∷ (b ∷ (c ∷ (d ∷ [])))) 1 e ≡ To 0) × (stock_next (a ∷ (b ∷ (c ∷ (d ∷ [])))) 0 e ≡ Forbidden)
stock-back a b c d e h is no-a no-b = (grind (arith, nat_tests), grind (arith, nat_tests))

module _ (E : ℕ) (body : List ℕ) (few : E ≤ 64) (size : length body ≡ 6) (fits : (i : ℕ) → i < length body → stock_fits E body i ≡ true) where
  -- what the reader tested of a column that has an event
  column-in_range : (k : ℕ) → k < 4 → get_or body (2 + k) 0 ≢ 255 →
      (get_or body (2 + k) 0 < E) × ((j : ℕ) → j < k → get_or body (2 + j) 0 ≢ get_or body (2 + k) 0)
  column-in_range k h some =
      let f = fits (2 + k) (omega arith) in
      let last : 2 + k - 2 ≡ k = omega arith in
      let g = rw last at f in
      let early : ℕ → Bool = λ j. eqb (get_or body (2 + j) 0) (get_or body (2 + k) 0) in
      (grind (arith, nat_tests), λ j l same. let a = any-from k early j l in grind (arith, nat_tests))

  column-at : (k : ℕ) → k < 4 → get_or body (2 + k) 255 ≡ get_or body (2 + k) 0
  column-at k h = get_or_default body (2 + k) 255 0 (omega arith)

  columns : List ℕ
  columns = get_or body 2 0 ∷ (get_or body 3 0 ∷ (get_or body 4 0 ∷ (get_or body 5 0 ∷ [])))

  columns-are : stock_in body ≡ stock columns
  unfolding columns
  columns-are =
      let a = column-at 0 (omega arith) in
      let b = column-at 1 (omega arith) in
      let c = column-at 2 (omega arith) in
      let d = column-at 3 (omega arith) in
      cc

  same_place : (k j : ℕ) → k ≡ j → get_or body (2 + k) 0 ≡ get_or body (2 + j) 0
  same_place k j e = ap (λ (i : ℕ). get_or body (2 + i) 0) e

  -- two columns with events have two events
  apart : (j k : ℕ) → j < k → k < 4 → get_or body (2 + j) 0 ≢ 255 → get_or body (2 + j) 0 ≢ get_or body (2 + k) 0
  apart j k l h some same = (column-in_range k h (λ q. some (same ∙ q))).1 j l same

  forth-at : (k : ℕ) → k < 2 → get_or body (2 + k) 0 ≢ 255 →
      (stock_next columns 0 (get_or body (2 + k) 0) ≡ To 1) × (stock_next columns 1 (get_or body (2 + k) 0) ≡ Forbidden)
  unfolding columns
  forth-at k h some =
      stock-forth _ _ _ _ (get_or body (2 + k) 0) (let p = (column-in_range k (omega arith) some).0 in omega arith)
      (elim (cases_eq k 0) [ inl z ↦ inl (same_place k 0 z) | inr z ↦ inr (same_place k 1 (omega arith)) ])
      (apart k 2 h (omega arith) some) (apart k 3 (omega arith) (omega arith) some)

  back_at : (k : ℕ) → 2 ≤ k → k < 4 → get_or body (2 + k) 0 ≢ 255 →
      (stock_next columns 1 (get_or body (2 + k) 0) ≡ To 0) × (stock_next columns 0 (get_or body (2 + k) 0) ≡ Forbidden)
  unfolding columns
  back_at k l h some =
      stock-back _ _ _ _ (get_or body (2 + k) 0) (let p = (column-in_range k h some).0 in omega arith)
      (elim (cases_eq k 2) [ inl z ↦ inl (same_place k 2 z) | inr z ↦ inr (same_place k 3 (omega arith)) ])
      (λ same. (column-in_range k h some).1 0 (omega arith) (sym same)) (λ same. (column-in_range k h some).1 1 (omega arith) (sym same))

  none-at : (e : ℕ) → ((k : ℕ) → k < 4 → get_or body (2 + k) 0 ≢ e) → stock_knows columns e ≡ false
  unfolding columns
  none-at e off =
      let a = off 0 (omega arith) in
      let b = off 1 (omega arith) in
      let c = off 2 (omega arith) in
      let d = off 3 (omega arith) in
      grind (arith, nat_tests)

  stock-plain : StockPlain E body (gen_of (stock_in body))
  stock-plain =
      subst (λ (x : Shape). StockPlain E body (gen_of x)) (sym columns-are)
      (record {
        count = refl;
        initial = refl;
        others = none-at;
        marked = λ s. refl;
        forth = forth-at;
        back = back_at;
      })

pub stocks-plain : Stocks-plain
stocks-plain component origin E body s few read letter =
    let i = eqb-true (get_or body 0 0) 73 letter in
    let shape_is : s ≡ stock_in body = read-shape component origin E body s read ∙ shape-stock E body (λ t. omega arith) (λ t. omega arith) in
    let size = read-size component origin E body s read in
    rw shape_is
    (stock-plain E body few (grind (arith, nat_tests, size))
    (λ k h. sym (fits-stock E body k i) ∙ read_fits component origin E body s read k (omega arith)))
