-- The contents rows, one after the other. Assumes nothing.
use Rattle.std.proofs.Common.{◌≡◌, ℕ, ◌+◌, ◌-◌, ◌*◌, ◌<◌, ◌≤◌, Bool, eqb, leb, List, [], length, get_or, take, drop, set, Ok, Err, Result, sym, refl, ap, ◌∙◌, subst, ⊎_elim, add-one, arith, Bor}
use Rattle.std.proofs.lemmas.List.{get_or-map, length-take, take_rest, get_or-drop, length-drop, length-map, map-set, get_or-set_same, get_or-set_other}
use Rattle.std.proofs.lemmas.Bool.Decides.{nat_tests}
use Rattle.std.proofs.lemmas.Bool.{cases_lt, leb-true}
use Rattle.model.specs.declared.fault.Fault.{Fault}
use Rattle.model.specs.declared.fault.Fault.TheVariants.{Contents}
use Rattle.model.specs.Readings.{provided, in_turn}
use Rattle.model.proofs.Turns.{provided-ok, turn_on, turn_at}
use Rattle.linefile.specs.Layout.{rows, contents_end, row_start, row_length, body_start, body_of, row_reading, contents_reading, texts, Found}

-- the part after the first n
pub past-length : (n : ℕ) (xs : List ℕ) → length (take (length xs - n) (drop n xs)) ≡ length xs - n
past-length n xs = ap length (take_rest xs n) ∙ length-drop n xs

pub past-at : (n : ℕ) (xs : List ℕ) (j : ℕ) → get_or (take (length xs - n) (drop n xs)) j 0 ≡ get_or xs (n + j) 0
past-at n xs j = ap (λ (ys : List ℕ). get_or ys j 0) (take_rest xs n) ∙ get_or-drop n xs j 0

-- one more body is found
pub texts-more : (want : ℕ → List ℕ) (bs : List (Bor (List ℕ))) (r : ℕ) (b : Bor (List ℕ)) → r < length bs → b.now ≡ want r
    → ((i : ℕ) → i < r → get_or (texts bs) i [] ≡ want i) → (i : ℕ) → i < r + 1 → get_or (texts (set bs r b)) i [] ≡ want i
texts-more want bs r b l e all i h =
    let m = map-set (λ (x : Bor (List ℕ)). x.now) bs r b in
    let n : length (texts bs) ≡ length bs = length-map bs (λ (x : Bor (List ℕ)). x.now) in
    ap (λ (ts : List (List ℕ)). get_or ts i []) m
    ∙ ⊎_elim
    (λ (k : i < r). get_or-set_other (texts bs) r i b.now [] (λ q. omega arith) ∙ all i k)
    (λ (k : r ≤ i).
    let q : r ≡ i = omega arith in
    subst (λ (j : ℕ). get_or (set (texts bs) r b.now) j [] ≡ want j) q (get_or-set_same (texts bs) r b.now [] (omega arith) ∙ e))
    (cases_lt i r)

-- row r of the file is the first of the rows that are left
module _ (file left : List ℕ) (r : ℕ) (some : 4 ≤ length left) (at : (j : ℕ) → j < length left → get_or left j 0 ≡ get_or file (3 + 4 * r + j) 0) where
  pub start_is : 256 * get_or left 0 0 + get_or left 1 0 ≡ row_start file r
  start_is =
      let z : get_or left 0 0 ≡ get_or file (3 + 4 * r) 0 = at 0 (omega arith) ∙ ap (λ n. get_or file n 0) (omega arith) in
      rw (z, at 1 (omega arith)) refl

  pub length-is : 256 * get_or left 2 0 + get_or left 3 0 ≡ row_length file r
  length-is = rw (at 2 (omega arith), at 3 (omega arith)) refl

-- what is told of the row's body is what the row says
abbrev pub body_reading : (file : List ℕ) (at start size place : ℕ) → Result (List ℕ) Fault
body_reading file at start size place =
    provided (eqb start at) (Contents place) (provided (leb (at + size) (length file)) (Contents (place + 2)) (Ok (take size (drop at file))))

module _ (n : ℕ) (file : List ℕ) (r start size at : ℕ) (s : start ≡ row_start file r) (z : size ≡ row_length file r) (a : at ≡ body_start n file r) where
  row-err : (e : Fault) (p q : Bool) → Err e ≡ provided p (Contents (3 + 4 * r)) (provided q (Contents (3 + 4 * r + 2)) (Ok (take size (drop at file)))) →
      provided {X = Unit {0}} p (Contents (3 + 4 * r)) (provided {X = Unit {0}} q (Contents (3 + 4 * r + 2)) (Ok tt)) ≡ Err e
  row-err e p q h = grind arith

  pub row-off : (e : Fault) → Err e ≡ body_reading file at start size (3 + 4 * r) → row_reading n file r ≡ Err e
  row-off e h =
      let k = row-err e (eqb start at) (leb (at + size) (length file)) h in
      rw (← s, ← z, ← a) k

  pub record RowOn (body : List ℕ) : Type 0 where
    pub reads : row_reading n file r ≡ Ok tt
    pub ends : at + size ≤ length file
    pub is : body ≡ body_of n file r

  pub row_on : (body : List ℕ) → Ok body ≡ body_reading file at start size (3 + 4 * r) → RowOn body
  row_on body h =
      let p = provided-ok (eqb start at) (Contents (3 + 4 * r)) (provided (leb (at + size) (length file)) (Contents (3 + 4 * r + 2)) (Ok (take size (drop at file)))) body h in
      let q = provided-ok (leb (at + size) (length file)) (Contents (3 + 4 * r + 2)) (Ok (take size (drop at file))) body p.1 in
      let t = q.1 in
      record {
        reads = rw (← s, ← z, ← a, p.0, q.0) refl;
        ends = leb-true (at + size) (length file) q.0;
        is = rw (← z, ← a) (cc);
      }

pub start-on : (n : ℕ) (file : List ℕ) (r at size : ℕ) → at ≡ body_start n file r → size ≡ row_length file r → at + size ≡ body_start n file (r + 1)
start-on n file r at size a z = rw (add-one r, a, z) refl

pub turns-on : (n : ℕ) (file : List ℕ) (r : ℕ) → in_turn (row_reading n file) r ≡ Ok tt → row_reading n file r ≡ Ok tt → in_turn (row_reading n file) (r + 1) ≡ Ok tt
turns-on n file r before here = rw (add-one r) (turn_on (row_reading n file) r tt before here)

-- the body of a row that is right ends within the file, and is as long as the row says
pub row_ends : (n : ℕ) (file : List ℕ) (r : ℕ) → row_reading n file r ≡ Ok tt → body_start n file r + row_length file r ≤ length file
row_ends n file r h = grind (arith, nat_tests)

pub body-length : (n : ℕ) (file : List ℕ) (r : ℕ) → row_reading n file r ≡ Ok tt → length (body_of n file r) ≡ row_length file r
body-length n file r h = let fits = row_ends n file r h in simp (length-take, length-drop) (omega arith)

pub row-right : (n : ℕ) (file : List ℕ) → in_turn (row_reading n file) (rows n) ≡ Ok tt → (r : ℕ) → r < rows n → row_reading n file r ≡ Ok tt
row-right n file h r lt = (turn_at (row_reading n file) (rows n) h r lt).1

-- the length of the first body that was found
pub first-length : (n : ℕ) (file : List ℕ) (bs : List (Bor (List ℕ))) (d : Bor (List ℕ)) → 0 < length bs → Found n file (texts bs) → Ok tt ≡ in_turn (row_reading n file) (rows n) →
    length (get_or bs 0 d).now ≡ row_length file 0
first-length n file bs d some found right =
    ap length (sym (get_or-map (λ (r : Bor (List ℕ)). r.now) bs 0 d [] some) ∙ found 0 (omega arith)) ∙ body-length n file 0 (row-right n file (sym right) 0 (omega arith))

-- the answers of a reader of contents
module _ (n E : ℕ) (file : List ℕ) where
  pub contents-short : length file < contents_end n → Err (Contents (length file)) ≡ contents_reading n E file
  unfolding contents_reading
  contents-short h = grind (arith, nat_tests)

  module _ (whole : contents_end n ≤ length file) where
    pub contents-row : (e : Fault) → Err e ≡ in_turn (row_reading n file) (rows n) → Err e ≡ contents_reading n E file
    unfolding contents_reading
    contents-row e h = grind (arith, nat_tests)

    module _ (right : Ok tt ≡ in_turn (row_reading n file) (rows n)) where
      pub contents-events : (row_length file 0 ≡ 3 * E → ⊥) → Err (Contents 5) ≡ contents_reading n E file
      unfolding contents_reading
      contents-events h = grind (arith, nat_tests)

      pub contents-spare : row_length file 0 ≡ 3 * E → (end : ℕ) → end ≡ body_start n file (rows n) → end < length file → Err (Contents end) ≡ contents_reading n E file
      unfolding contents_reading
      contents-spare h end is lt = grind (arith, nat_tests)

      pub contents-whole : row_length file 0 ≡ 3 * E → body_start n file (rows n) ≡ length file → Ok tt ≡ contents_reading n E file
      unfolding contents_reading
      contents-whole h e = grind (arith, nat_tests)
