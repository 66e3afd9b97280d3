-- The calls of the line that the small file means, and all entries. Assumes nothing.
use Rattle.std.proofs.Common.{◌≡◌, ℕ, Bool, true, cond, List, [], ◌∷◌, sym, refl, ap, ◌∙◌, subst}
use Rattle.model.specs.Automata.{distance, lowest}
use Rattle.model.specs.declared.fault.Layer.TheVariants.{Run}
use Rattle.model.specs.declared.fault.Fault.TheVariants.{WorkCells}
use Rattle.hisc.specs.Lines.{Line, State, possible, marked, initial}
use Rattle.hisc.specs.Sizes.{Cells, size, largest_low, enough}
use Rattle.hisc.specs.Guide.{guide, high_distance, low_distance}
use Rattle.hisc.specs.Calls.{Offer, Guide, Reply, accepted, guidance, refused as refusal, refuser, next, reply, replies}
use Rattle.hisc.specs.Law.{followed, led_home}
use Rattle.hisc.specs.SmallLine.{cells_of}
use Rattle.verdicts.specs.Verdicts.{FileLine, the_line, unread}
use Rattle.verdicts.specs.Worked.{small_file, AtLeast, SmallRuns, WorkedEntries}
use Rattle.verdicts.proofs.OneVerdict.{same_line, one_told}
use Rattle.verdicts.proofs.SmallFile.{whole_line, lost_line, unmarked_line, wrong_line, whole-read, lost-read, unmarked-read, wrong-read, cut-unread, empty-unread, no-states-unread}
use Rattle.verdicts.proofs.SmallChecks.{six-enough, whole-told, lost-told, unmarked-told, wrong-told}

-- with work cells enough, how many there are makes no difference to the replies
same-led : (l : Line) (a b : Cells) → enough l a ≡ enough l b → (w : List ℕ) (x : State) → replies l x (followed a w) ≡ replies l x (followed b w)
same-led l a b e [] x = ap (λ (t : Bool). cond t (guidance (guide l x)) (refusal (WorkCells Run)) ∷ []) e
same-led l a b e (d ∷ w) x =
    ap (λ (t : Bool). cond t (guidance (guide l x)) (refusal (WorkCells Run)) ∷ reply l x (Offer d) ∷ replies l (next l x (Offer d)) (followed a w)) e ∙
    ap (λ (rs : List Reply). reply l x (Guide b) ∷ reply l x (Offer d) ∷ rs) (same-led l a b e w (next l x (Offer d)))

six-led : replies (the_line whole_line) (initial (the_line whole_line)) (Offer 0 ∷ followed (cells_of 6) (1 ∷ 3 ∷ 2 ∷ [])) ≡ accepted ∷ led_home (1 ∷ 3 ∷ 2 ∷ [])
unfolding guide high_distance low_distance distance lowest possible marked size largest_low refuser
six-led = refl

six-cells : enough (the_line whole_line) (cells_of 6) ≡ true
unfolding size largest_low
six-cells = refl

abbrev start : State
start = initial (the_line whole_line)

led : (cells : Cells) → AtLeast 6 cells →
    replies (the_line whole_line) start (Offer 0 ∷ followed cells (1 ∷ 3 ∷ 2 ∷ [])) ≡ accepted ∷ led_home (1 ∷ 3 ∷ 2 ∷ [])
unfolding size largest_low
led cells h =
    ap (λ (rs : List Reply). reply (the_line whole_line) start (Offer 0) ∷ rs)
    (same-led (the_line whole_line) cells (cells_of 6) (six-enough (the_line whole_line) cells refl h ∙ sym six-cells) (1 ∷ 3 ∷ 2 ∷ []) (next (the_line whole_line) start (Offer 0))) ∙
    six-led

whole-runs : SmallRuns (the_line whole_line)
unfolding size largest_low refuser
whole-runs = record {
  refusals = refl;
  refused_shows = refl;
  number_shows = refl;
  led = led;
  most_offers = refl;
}

pub worked : WorkedEntries
worked = record {
  one_told = one_told;
  size = refl;
  whole = whole-told;
  lost_answer = record { line = lost_line; read = lost-read; told = lost-told; shows = refl };
  unmarked_plant = record { line = unmarked_line; read = unmarked-read; told = unmarked-told; shows = refl };
  wrong_answer = record { line = wrong_line; read = wrong-read; told = wrong-told; shows = refl };
  cut = record { told = λ cells. unread cut-unread; shows = refl };
  empty = record { told = λ cells. unread empty-unread; shows = refl };
  no_states = record { told = λ cells. unread no-states-unread; shows = refl };
  runs = λ m q. subst (λ (k : FileLine). SmallRuns (the_line k)) (same_line small_file whole_line m whole-read q) whole-runs;
}
