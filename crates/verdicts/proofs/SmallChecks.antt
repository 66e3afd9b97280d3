-- What the check answers to the lines of the small file and its copies, by computation. Assumes nothing.
use Rattle.std.proofs.Common.{◌≡◌, ℕ, ◌≤◌, true, ◌&&◌, leb, [], ◌∷◌, ◌++◌, set, Some, None, refl, ap, ◌∙◌, arith}
use Rattle.std.proofs.lemmas.Bool.{and_from, le-leb}
use Rattle.model.specs.declared.fault.Fault.TheVariants.{Alphabet, Point}
use Rattle.hisc.specs.Lines.{Line, possible, marked}
use Rattle.hisc.specs.Sizes.{Cells, size, code, largest_low, largest_walk, enough}
use Rattle.hisc.specs.Points.{Points}
use Rattle.hisc.specs.Verdict.{alphabet_known, command_pair, requests_accepted, answers_reachable, rest_reachable, tests, FirstFault, faulty as refuses, passed as passes}
use Rattle.hisc.proofs.Verdicts.{tests-points}
use Rattle.hisc.proofs.Decide.{every, test, all_right, alphabet-witness, answer-witness, rest-witness, first-failing}
use Rattle.hisc.proofs.SmallLine.{high_words, low_words, lost_words, alone_words, alphabets, after_five, to_six, after_six, sizes}
use Rattle.verdicts.specs.Verdicts.{the_line, passed, faulty, VerdictOn, refused, sound}
use Rattle.verdicts.specs.Worked.{small_file, AtLeast}
use Rattle.verdicts.proofs.SmallFile.{whole_line, lost_line, unmarked_line, wrong_line, whole-read, lost-read, unmarked-read, wrong-read, whole-made, lost-made, unmarked-made, wrong-made}

-- six work cells in each slice are enough, if the largest walk has six states
pub six-enough : (l : Line) (cells : Cells) → largest_walk l ≡ 6 → AtLeast 6 cells → enough l cells ≡ true
six-enough l cells e h =
    and_from (leb (largest_walk l) cells.first && leb (largest_walk l) cells.second) (leb (largest_walk l) cells.third)
    (and_from (leb (largest_walk l) cells.first) (leb (largest_walk l) cells.second)
    (least cells.first h.first) (least cells.second h.second))
    (least cells.third h.third)
  where
    least : (n : ℕ) → 6 ≤ n → leb (largest_walk l) n ≡ true
    least n le = ap (λ (k : ℕ). leb k n) e ∙ le-leb 6 n le

-- the whole file
whole-tests : every (test (the_line whole_line) whole-made high_words low_words alone_words) (tests (the_line whole_line)) ≡ true
unfolding possible marked size code
whole-tests = refl

whole-points : Points (the_line whole_line)
whole-points = (tests-points (the_line whole_line)).enough_tests (all_right (the_line whole_line) whole-made high_words low_words alone_words (tests (the_line whole_line)) whole-tests)

pub whole-told : (cells : Cells) → AtLeast 6 cells → VerdictOn small_file cells (passed 6 (6 ∷ []))
unfolding size largest_low
whole-told cells h = sound whole_line whole-read (passes (sizes (the_line whole_line) refl) (six-enough (the_line whole_line) cells refl h) whole-points)

-- the copies that the check refuses
lost-fault : FirstFault (the_line lost_line) (Point 5 1 4 (Some 2))
unfolding possible marked size code
lost-fault =
    first-failing (the_line lost_line) lost-made high_words lost_words alone_words (alphabets ++ (command_pair 1 ∷ requests_accepted 1 ∷ [])) (answers_reachable 1) after_five 4 (Some 2) refl
    (answer-witness (the_line lost_line) lost-made high_words lost_words alone_words 1 4 2 [] 1 refl refl refl refl refl refl refl refl)

unmarked-fault : FirstFault (the_line unmarked_line) (Point 6 1 0 None)
unfolding possible marked size code
unmarked-fault =
    first-failing (the_line unmarked_line) unmarked-made high_words low_words alone_words (alphabets ++ to_six) (rest_reachable 1) after_six 0 None refl
    (rest-witness (the_line unmarked_line) unmarked-made high_words low_words alone_words 1 0 [] (omega arith, omega arith) refl refl refl refl refl)

wrong-fault : FirstFault (the_line wrong_line) (Alphabet 1 4 2)
wrong-fault =
    first-failing (the_line wrong_line) wrong-made high_words low_words alone_words (alphabet_known 0 ∷ alphabet_known 1 ∷ alphabet_known 2 ∷ alphabet_known 3 ∷ []) (alphabet_known 4)
    (to_six ++ after_five) 0 (Some 2) refl (alphabet-witness (the_line wrong_line) wrong-made high_words low_words alone_words 4 2 refl refl)

pub lost-told : (cells : Cells) → AtLeast 6 cells → VerdictOn (set small_file 90 255) cells (faulty (Point 5 1 4 (Some 2)))
unfolding size largest_low
lost-told cells h = refused lost_line lost-read (refuses (sizes (the_line lost_line) refl) (six-enough (the_line lost_line) cells refl h) lost-fault)

pub unmarked-told : (cells : Cells) → AtLeast 6 cells → VerdictOn (set small_file 80 45) cells (faulty (Point 6 1 0 None))
unfolding size largest_low
unmarked-told cells h = refused unmarked_line unmarked-read (refuses (sizes (the_line unmarked_line) refl) (six-enough (the_line unmarked_line) cells refl h) unmarked-fault)

pub wrong-told : (cells : Cells) → AtLeast 6 cells → VerdictOn (set small_file 111 3) cells (faulty (Alphabet 1 4 2))
unfolding size largest_low
wrong-told cells h = refused wrong_line wrong-read (refuses (sizes (the_line wrong_line) refl) (six-enough (the_line wrong_line) cells refl h) wrong-fault)
