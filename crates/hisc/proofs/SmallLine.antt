-- The small line and its variants, by computation. Assumes nothing.
use Rattle.std.proofs.Common.{◌≡◌, ℕ, ◌<◌, ◌≤◌, Bool, true, false, cond, ◌&&◌, eqb, ltb, leb, List, [], ◌∷◌, ◌++◌, Some, None, sym, refl, ap, ◌∙◌, subst, inl, inr, arith, lit<}
use Rattle.std.proofs.lemmas.Bool.{and_parts, or_cases, false_from_ne_true, cases_Bool, ltb-true, leb-true, eqb-true, ne_eqb}
use Rattle.model.specs.Generators.{Gen, WellFormed}
use Rattle.model.specs.Numbers.{all}
use Rattle.model.specs.Charts.{EventChart, WellCharted, is_high, owns_request, owns_answer}
use Rattle.model.specs.Automata.{distance, lowest}
use Rattle.model.specs.declared.next.Next.{Next}
use Rattle.model.specs.declared.next.Next.TheVariants.{Foreign, Forbidden, To}
use Rattle.model.specs.declared.fault.Fault.{Fault}
use Rattle.model.specs.declared.fault.Fault.TheVariants.{Alphabet, Point}
use Rattle.model.proofs.Finds.{never, all-at}
use Rattle.hisc.specs.Lines.{Line, WellMade, high, low, possible, marked}
use Rattle.hisc.specs.Sizes.{size, code, largest_low, enough}
use Rattle.hisc.specs.Points.{Points}
use Rattle.hisc.specs.Verdict.{Test, alphabet_known, command_pair, answers_accepted, requests_accepted, answers_reachable, rest_reachable, low_nonblocking, high_nonblocking, low_controllable, high_controllable, tests, FirstFault, SizesFit, low_walk, incomplete, oversize, few_cells, faulty, passed}
use Rattle.hisc.specs.Guide.{guide, high_distance, low_distance}
use Rattle.hisc.specs.Calls.{refuser}
use Rattle.hisc.specs.SmallLine.{Move, move, member, next_by, generator, small_chart, small_high_plant, small_plant, small_interface, loops, idle, line_with, small_line, cells_of, SmallLinePasses, choice_chart, choice_line, ChoiceLinePasses, unmarked_start_line, lost_answer_line, unmarked_plant_line, rest_by_request_line, wrong_answer_line, stray_event_line, too_large_line, RefusedWith, LinesRefused, AlwaysRefused}
use Rattle.hisc.proofs.Walks.{alphabet-outside}
use Rattle.hisc.proofs.Made.{well-made}
use Rattle.hisc.proofs.Verdicts.{tests-points, all-not}
use Rattle.hisc.proofs.Decide.{every, test, right, all_right, alphabet-witness, start-witness, answer-witness, rest-witness, first-failing}

-- generators that are given by lists
every-member : (p : ℕ → Bool) (ms : List ℕ) → every p ms ≡ true → (n : ℕ) → member ms n ≡ true → p n ≡ true
every-member p [] h n t = never t refl
every-member p (m ∷ ms) h n t =
    let r = and_parts _ _ h in
    elim (or_cases (eqb m n) (member ms n) t) [
      | inl e ↦ subst (λ (i : ℕ). p i ≡ true) (eqb-true _ _ e) r.0
      | inr u ↦ every-member p ms r.1 n u
    ]

abbrev within : ℕ → Move → Bool
within n m = ltb m.from n && ltb m.to n

abbrev is_foreign : Next → Bool
is_foreign Foreign = true
is_foreign Forbidden = false
is_foreign (To t) = false

not-foreign : (ms : List Move) (s e : ℕ) → is_foreign (next_by ms s e) ≡ false
not-foreign [] s e = refl
not-foreign (m ∷ ms) s e = go (eqb m.from s && eqb m.event e) (not-foreign ms s e)
  where
    go : (b : Bool) → is_foreign (next_by ms s e) ≡ false → is_foreign (cond b (To m.to) (next_by ms s e)) ≡ false
    go true h = refl
    go false h = h

next-within : (n : ℕ) (ms : List Move) → every (within n) ms ≡ true → (s e t : ℕ) → next_by ms s e ≡ To t → t < n
next-within n [] h s e t q = absurd cc
next-within n (m ∷ ms) h s e t q =
    let r = and_parts _ _ h in
    go (eqb m.from s && eqb m.event e) r.0 (next-within n ms r.1 s e t) q
  where
    go : (b : Bool) → within n m ≡ true → (next_by ms s e ≡ To t → t < n) → cond b (To m.to) (next_by ms s e) ≡ To t → t < n
    go true v h q = let z : m.to ≡ t = cc in omega (arith, ltb-true m.to n (and_parts (ltb m.from n) (ltb m.to n) v).1)
    go false v h q = h q

next-beyond : (n : ℕ) (ms : List Move) → every (within n) ms ≡ true → (s e : ℕ) → n ≤ s → next_by ms s e ≡ Forbidden
next-beyond n [] h s e ge = refl
next-beyond n (m ∷ ms) h s e ge =
    let r = and_parts _ _ h in
    let lt : m.from < n = ltb-true _ _ (and_parts _ _ r.0).0 in
    ap (λ (b : Bool). cond (b && eqb m.event e) (To m.to) (next_by ms s e)) (ne_eqb m.from s (omega arith)) ∙ next-beyond n ms r.1 s e ge

abbrev sound : ℕ → List ℕ → List ℕ → List Move → Bool
sound n known marks moves = (leb 1 n && leb n 4096) && (every (λ e. ltb e 64) known && (every (λ s. ltb s n) marks && every (within n) moves))

formed : (n : ℕ) (known marks : List ℕ) (moves : List Move) → sound n known marks moves ≡ true → WellFormed (generator n known marks moves)
formed n known marks moves t =
    let p = and_parts _ _ t in
    let c = and_parts _ _ p.0 in
    let q = and_parts _ _ p.1 in
    let r = and_parts _ _ q.1 in
    record {
      some = leb-true _ _ c.0;
      few = leb-true _ _ c.1;
      begins = omega (arith, leb-true _ _ c.0);
      events = λ e k. ltb-true _ _ (every-member (λ e. ltb e 64) known q.0 e k);
      marks = λ s m. ltb-true _ _ (every-member (λ s. ltb s n) marks r.0 s m);
      foreign = λ s e u. ap (λ (b : Bool). cond b (next_by moves s e) Foreign) u;
      known = λ s e f. false_from_ne_true (member known e) (λ k.
          never (ap is_foreign f) (ap (λ (b : Bool). is_foreign (cond b (next_by moves s e) Foreign)) k ∙ not-foreign moves s e));
      inside = λ s e t q. elim (cases_Bool (member known e)) [
        | inl k ↦ next-within n moves r.1 s e t (sym (ap (λ (b : Bool). cond b (next_by moves s e) Foreign) k) ∙ q)
        | inr u ↦ absurd (let f : Foreign ≡ To t = sym (ap (λ (b : Bool). cond b (next_by moves s e) Foreign) u) ∙ q in cc)
      ];
      beyond = λ s e k ge. ap (λ (b : Bool). cond b (next_by moves s e) Foreign) k ∙ next-beyond n moves r.1 s e ge;
    }

-- a chart of one level, by computation
abbrev pub sound_chart : EventChart → Bool
sound_chart k =
    ((eqb k.levels 1 && (leb 1 k.events && leb k.events 64)) && (owns_request k 1 && owns_answer k 1)) &&
    all k.events (λ e. cond (is_high (k.kind e)) (eqb (k.owner e) 0) (eqb (k.owner e) 1))

pub one-level : (k : EventChart) → sound_chart k ≡ true → WellCharted k
one-level k t =
    let p = and_parts ((eqb k.levels 1 && (leb 1 k.events && leb k.events 64)) && (owns_request k 1 && owns_answer k 1))
    (all k.events (λ e. cond (is_high (k.kind e)) (eqb (k.owner e) 0) (eqb (k.owner e) 1))) t in
    let q = and_parts (eqb k.levels 1 && (leb 1 k.events && leb k.events 64)) (owns_request k 1 && owns_answer k 1) p.0 in
    let r = and_parts (eqb k.levels 1) (leb 1 k.events && leb k.events 64) q.0 in
    let b = and_parts (leb 1 k.events) (leb k.events 64) r.1 in
    let o = and_parts (owns_request k 1) (owns_answer k 1) q.1 in
    let n : k.levels ≡ 1 = eqb-true _ _ r.0 in
    let owned : (e : ℕ) → e < k.events → cond (is_high (k.kind e)) (eqb (k.owner e) 0) (eqb (k.owner e) 1) ≡ true =
    all-at _ _ p.1 in
    record {
      some_level = omega arith;
      few_levels = omega arith;
      some_event = leb-true _ _ b.0;
      few_events = leb-true _ _ b.1;
      high_owner = λ e lt h. eqb-true _ _ (subst (λ (b : Bool). cond b (eqb (k.owner e) 0) (eqb (k.owner e) 1) ≡ true) h (owned e lt));
      low_owner = λ e lt h.
          let z = eqb-true _ _ (subst (λ (b : Bool). cond b (eqb (k.owner e) 0) (eqb (k.owner e) 1) ≡ true) h (owned e lt)) in
          (omega arith, omega arith);
      requests = λ j v. let z : 1 ≡ j = omega (arith, v, n) in subst (λ (i : ℕ). owns_request k i ≡ true) z o.0;
      answers = λ j v. let z : 1 ≡ j = omega (arith, v, n) in subst (λ (i : ℕ). owns_answer k i ≡ true) z o.1;
    }

charted : WellCharted small_chart
charted = one-level small_chart refl

idle-formed : (known : List ℕ) → sound 1 known (0 ∷ []) (loops known) ≡ true → WellFormed (idle known)
idle-formed known t = formed 1 known (0 ∷ []) (loops known) t

made : {top bottom between : Gen} → WellFormed top → WellFormed bottom → WellFormed between → WellMade (line_with top bottom between)
made {top = top} {bottom = bottom} {between = between} a b c =
    well-made small_chart (top ∷ idle (0 ∷ 1 ∷ 2 ∷ []) ∷ bottom ∷ idle (1 ∷ 2 ∷ 3 ∷ []) ∷ between ∷ []) charted
    (a, (idle-formed (0 ∷ 1 ∷ 2 ∷ []) refl, (b, (idle-formed (1 ∷ 2 ∷ 3 ∷ []) refl, (c, tt))))) refl

top-formed : WellFormed small_high_plant
top-formed = formed 3 (0 ∷ 1 ∷ 2 ∷ []) (0 ∷ []) (move 0 0 1 ∷ move 1 1 2 ∷ move 2 2 0 ∷ []) refl

plant-formed : WellFormed small_plant
plant-formed = formed 3 (1 ∷ 2 ∷ 3 ∷ []) (0 ∷ []) (move 0 1 1 ∷ move 1 3 2 ∷ move 2 2 0 ∷ []) refl

between-formed : WellFormed small_interface
between-formed = formed 2 (1 ∷ 2 ∷ []) (0 ∷ []) (move 0 1 1 ∷ move 1 2 0 ∷ []) refl

small-made : WellMade small_line
small-made = made top-formed plant-formed between-formed

-- words to every reached state of the walks
abbrev pub high_words : List (List ℕ)
high_words = [] ∷ (0 ∷ []) ∷ (0 ∷ 1 ∷ []) ∷ []

abbrev pub low_words : ℕ → List (List ℕ)
low_words j = [] ∷ (1 ∷ []) ∷ (1 ∷ 3 ∷ []) ∷ []

abbrev pub alone_words : ℕ → List (List ℕ)
alone_words j = [] ∷ (1 ∷ []) ∷ []

-- a line of one level whose walks fit, over a bank of five components
abbrev pub sized : Line → Bool
sized l = eqb l.chart.levels 1 && (leb (size l (low l 1)) 4096 && leb (size l (high l)) 4096)

pub sizes : (l : Line) → sized l ≡ true → SizesFit l 5
sizes l t =
    let p = and_parts (eqb l.chart.levels 1) (leb (size l (low l 1)) 4096 && leb (size l (high l)) 4096) t in
    let q = and_parts (leb (size l (low l 1)) 4096) (leb (size l (high l)) 4096) p.1 in
    let n : l.chart.levels ≡ 1 = eqb-true _ _ p.0 in
    record {
      complete = omega arith;
      lows = λ j v. let z : 1 ≡ j = omega (arith, v, n) in subst (λ (i : ℕ). size l (low l i) ≤ 4096) z (leb-true _ _ q.0);
      top = leb-true _ _ q.1;
    }

small-tests : every (test small_line small-made high_words low_words alone_words) (tests small_line) ≡ true
unfolding possible marked size code
small-tests = refl

small-points : Points small_line
small-points = (tests-points small_line).enough_tests (all_right small_line small-made high_words low_words alone_words (tests small_line) small-tests)

pub small-passes : SmallLinePasses
unfolding guide high_distance low_distance distance lowest possible marked size largest_low refuser
small-passes = record {
  made = small-made;
  points = small-points;
  high_size = refl;
  low_size = refl;
  most_offers = refl;
  passes = passed (sizes small_line refl) refl small-points;
  few_cells = few_cells (sizes small_line refl) refl;
  incomplete = incomplete (λ q. omega (arith, q));
  answered = refl;
  refusals = refl;
  led = refl;
  shown = refl;
}

-- the line with two answers
choice-made : WellMade choice_line
choice-made =
    well-made choice_chart
    (generator 3 (0 ∷ 1 ∷ 2 ∷ 3 ∷ 4 ∷ []) (0 ∷ []) (move 0 2 1 ∷ move 1 3 0 ∷ move 1 4 2 ∷ move 2 0 0 ∷ move 2 1 0 ∷ []) ∷
    idle (0 ∷ 1 ∷ 2 ∷ 3 ∷ 4 ∷ []) ∷
    generator 5 (2 ∷ 3 ∷ 4 ∷ 5 ∷ 6 ∷ []) (0 ∷ [])
    (move 0 2 1 ∷ move 1 5 2 ∷ move 1 6 3 ∷ move 2 3 0 ∷ move 3 5 4 ∷ move 3 6 4 ∷ move 4 4 0 ∷ []) ∷
    idle (2 ∷ 3 ∷ 4 ∷ 5 ∷ 6 ∷ []) ∷
    generator 2 (2 ∷ 3 ∷ 4 ∷ []) (0 ∷ []) (move 0 2 1 ∷ move 1 3 0 ∷ move 1 4 0 ∷ []) ∷ [])
    (one-level choice_chart refl) (
      formed 3 (0 ∷ 1 ∷ 2 ∷ 3 ∷ 4 ∷ []) (0 ∷ []) (move 0 2 1 ∷ move 1 3 0 ∷ move 1 4 2 ∷ move 2 0 0 ∷ move 2 1 0 ∷ []) refl,
      (
        idle-formed (0 ∷ 1 ∷ 2 ∷ 3 ∷ 4 ∷ []) refl,
        (
          formed 5 (2 ∷ 3 ∷ 4 ∷ 5 ∷ 6 ∷ []) (0 ∷ [])
              (move 0 2 1 ∷ move 1 5 2 ∷ move 1 6 3 ∷ move 2 3 0 ∷ move 3 5 4 ∷ move 3 6 4 ∷ move 4 4 0 ∷ []) refl,
          (
            idle-formed (2 ∷ 3 ∷ 4 ∷ 5 ∷ 6 ∷ []) refl,
            (formed 2 (2 ∷ 3 ∷ 4 ∷ []) (0 ∷ []) (move 0 2 1 ∷ move 1 3 0 ∷ move 1 4 0 ∷ []) refl, tt),
          ),
        ),
      ),
    )
    refl

choice-high : List (List ℕ)
choice-high = [] ∷ (2 ∷ []) ∷ (2 ∷ 4 ∷ []) ∷ []

choice-low : ℕ → List (List ℕ)
choice-low j = [] ∷ (2 ∷ []) ∷ (2 ∷ 5 ∷ []) ∷ (2 ∷ 6 ∷ []) ∷ (2 ∷ 6 ∷ 5 ∷ []) ∷ []

choice-alone : ℕ → List (List ℕ)
choice-alone j = [] ∷ (2 ∷ []) ∷ []

choice-tests : every (test choice_line choice-made choice-high choice-low choice-alone) (tests choice_line) ≡ true
unfolding possible marked size code choice-high choice-low choice-alone
choice-tests = refl

pub choice-passes : ChoiceLinePasses
unfolding guide high_distance low_distance distance lowest possible marked size largest_low refuser
choice-passes = record {
  made = choice-made;
  points = (tests-points choice_line).enough_tests (all_right choice_line choice-made choice-high choice-low choice-alone (tests choice_line) choice-tests);
  soonest = refl;
  other = refl;
}

-- the lines that are refused
refused-with : {l : Line} {f : Fault} → WellMade l → FirstFault l f → sized l ≡ true → enough l (cells_of 12) ≡ true → RefusedWith l f
refused-with {l = l} {f = f} m q s c = record {
  made = m;
  lacks = λ p. all-not l (tests l) f ((tests-points l).no_more p) q;
  answer = faulty (sizes l s) c q;
}

-- the tests of point 1, and those of the level after point 5 and point 6
abbrev pub alphabets : List Test
alphabets = alphabet_known 0 ∷ alphabet_known 1 ∷ alphabet_known 2 ∷ alphabet_known 3 ∷ alphabet_known 4 ∷ []

abbrev pub high_tests : List Test
high_tests = answers_accepted ∷ high_nonblocking ∷ high_controllable ∷ []

abbrev pub after_five : List Test
after_five = rest_reachable 1 ∷ low_nonblocking 1 ∷ low_controllable 1 ∷ high_tests

abbrev pub to_six : List Test
to_six = command_pair 1 ∷ requests_accepted 1 ∷ answers_reachable 1 ∷ []

abbrev pub after_six : List Test
after_six = low_nonblocking 1 ∷ low_controllable 1 ∷ high_tests

start-made : WellMade unmarked_start_line
start-made = made top-formed plant-formed (formed 2 (1 ∷ 2 ∷ []) (1 ∷ []) (move 0 1 1 ∷ move 1 2 0 ∷ []) refl)

start-fault : FirstFault unmarked_start_line (Point 2 1 0 None)
unfolding possible marked size code
start-fault =
    first-failing unmarked_start_line start-made high_words low_words alone_words alphabets (command_pair 1)
    (requests_accepted 1 ∷ answers_reachable 1 ∷ after_five) 0 None refl (start-witness unmarked_start_line start-made high_words low_words alone_words 1 refl)

lost-made : WellMade lost_answer_line
lost-made = made top-formed (formed 3 (1 ∷ 2 ∷ 3 ∷ []) (0 ∷ []) (move 0 1 1 ∷ move 2 2 0 ∷ []) refl) between-formed

abbrev pub lost_words : ℕ → List (List ℕ)
lost_words j = [] ∷ (1 ∷ []) ∷ []

lost-fault : FirstFault lost_answer_line (Point 5 1 4 (Some 2))
unfolding possible marked size code
lost-fault =
    first-failing lost_answer_line lost-made high_words lost_words alone_words (alphabets ++ (command_pair 1 ∷ requests_accepted 1 ∷ [])) (answers_reachable 1) after_five 4 (Some 2) refl
    (answer-witness lost_answer_line lost-made high_words lost_words alone_words 1 4 2 [] 1 refl refl refl refl refl refl refl refl)

unmarked-made : WellMade unmarked_plant_line
unmarked-made = made top-formed (formed 3 (1 ∷ 2 ∷ 3 ∷ []) [] (move 0 1 1 ∷ move 1 3 2 ∷ move 2 2 0 ∷ []) refl) between-formed

unmarked-fault : FirstFault unmarked_plant_line (Point 6 1 0 None)
unfolding possible marked size code
unmarked-fault =
    first-failing unmarked_plant_line unmarked-made high_words low_words alone_words (alphabets ++ to_six) (rest_reachable 1) after_six 0 None refl
    (rest-witness unmarked_plant_line unmarked-made high_words low_words alone_words 1 0 [] (omega arith, omega arith) refl refl refl refl refl)

rest-made : WellMade rest_by_request_line
rest-made = made top-formed (formed 6 (1 ∷ 2 ∷ 3 ∷ []) (0 ∷ []) (move 0 1 1 ∷ move 1 3 2 ∷ move 2 2 3 ∷ move 3 1 4 ∷ move 4 3 5 ∷ move 5 2 0 ∷ []) refl) between-formed

rest-words : ℕ → List (List ℕ)
rest-words j = [] ∷ (1 ∷ []) ∷ (1 ∷ 3 ∷ []) ∷ (1 ∷ 3 ∷ 2 ∷ []) ∷ (1 ∷ 3 ∷ 2 ∷ 1 ∷ []) ∷ (1 ∷ 3 ∷ 2 ∷ 1 ∷ 3 ∷ []) ∷ []

rest-fault : FirstFault rest_by_request_line (Point 6 1 3 None)
unfolding possible marked size code rest-words
rest-fault =
    first-failing rest_by_request_line rest-made high_words rest-words alone_words (alphabets ++ to_six) (rest_reachable 1) after_six 3 None refl
    (rest-witness rest_by_request_line rest-made high_words rest-words alone_words 1 3 (1 ∷ 3 ∷ 2 ∷ []) (omega arith, omega arith) refl refl refl refl refl)

rest-nonblocking : test rest_by_request_line rest-made high_words rest-words alone_words (low_nonblocking 1) ≡ true
unfolding possible marked size code rest-words
rest-nonblocking = refl

wrong-made : WellMade wrong_answer_line
wrong-made = made top-formed plant-formed (formed 2 (1 ∷ 3 ∷ []) (0 ∷ []) (move 0 1 1 ∷ move 1 3 0 ∷ []) refl)

wrong-fault : FirstFault wrong_answer_line (Alphabet 1 4 2)
wrong-fault =
    first-failing wrong_answer_line wrong-made high_words low_words alone_words (alphabet_known 0 ∷ alphabet_known 1 ∷ alphabet_known 2 ∷ alphabet_known 3 ∷ []) (alphabet_known 4)
    (to_six ++ after_five) 0 (Some 2) refl (alphabet-witness wrong_answer_line wrong-made high_words low_words alone_words 4 2 refl refl)

stray-made : WellMade stray_event_line
stray-made = made (formed 3 (0 ∷ 1 ∷ 2 ∷ 63 ∷ []) (0 ∷ []) (move 0 0 1 ∷ move 1 1 2 ∷ move 2 2 0 ∷ []) refl) plant-formed between-formed

stray-fault : FirstFault stray_event_line (Alphabet 0 0 63)
stray-fault =
    first-failing stray_event_line stray-made high_words low_words alone_words [] (alphabet_known 0)
    (alphabet_known 1 ∷ alphabet_known 2 ∷ alphabet_known 3 ∷ alphabet_known 4 ∷ (to_six ++ after_five)) 0 (Some 63) refl
    (alphabet-witness stray_event_line stray-made high_words low_words alone_words 0 63 refl refl)

large-made : WellMade too_large_line
large-made = made top-formed (formed 4096 (1 ∷ 2 ∷ 3 ∷ []) (0 ∷ []) (move 0 1 1 ∷ move 1 3 2 ∷ move 2 2 0 ∷ []) refl) between-formed

pub lines-refused : LinesRefused
unfolding size largest_low rest-words
lines-refused = record {
  unmarked_start = refused-with start-made start-fault refl refl;
  lost_answer = refused-with lost-made lost-fault refl refl;
  unmarked_plant = refused-with unmarked-made unmarked-fault refl refl;
  rest_by_request = refused-with rest-made rest-fault refl refl;
  rest_by_request_nonblocking = right rest_by_request_line rest-made high_words rest-words alone_words (low_nonblocking 1) rest-nonblocking;
  wrong_answer = refused-with wrong-made wrong-fault refl refl;
  stray_event = refused-with stray-made stray-fault refl refl;
  too_large = large-made;
  too_large_answer = λ cells. oversize refl (low_walk (omega arith, omega arith) (λ i a b. absurd (omega arith)) (lit< tt));
}

-- refusals of every such line
pub always-refused : (l : Line) → AlwaysRefused l
always-refused l = record {
  unmarked_start = λ j v f p. never (p.command_pairs j v).begins f;
  stray_event = λ c e lt ge k p. never k (p.alphabets c lt e ∙ alphabet-outside l c e ge);
}
