-- Every file view is a list of well-formed generators. Assumes nothing.
use Rattle.std.specs.Prelude.{◌≡◌, ℕ, zero, suc, ◌+◌, ◌<◌, Bool, true, not, ◌&&◌, List, [], map, slice_index, slice_index_or}
use Rattle.std.proofs.Common.{arith}
use Rattle.std.proofs.lemmas.Bool.{and_parts}
use Rattle.std.proofs.lemmas.Bool.Decides.{nat_tests}
use Rattle.std.specs.List.{range_with_len}
use Rattle.model.specs.Charts.{EventChart, WellCharted}
use Rattle.model.specs.Components.{components, level_of, is_interface}
use Rattle.model.specs.Generators.{Gen, WellFormed, AllFormed}
use Rattle.model.specs.Sets.{member}
use Rattle.generators.specs.Formed.{looped-formed, member-small}
use Rattle.makes.specs.Shapes.{shape_in}
use Rattle.makes.specs.Meanings.{gen_of}
use Rattle.makes.specs.Formed.{formed}
use Rattle.linefile.specs.Bank.{alphabet_of, component_over, list_over, list_from}

all-formed : (f : ℕ → Gen) → ((c : ℕ) → WellFormed (f c)) → (a n : ℕ) → AllFormed (map f (range_with_len a n))
all-formed f h a zero = tt
all-formed f h a (suc n) = (h a, all-formed f h (a + 1) n)

-- whatever tells the alphabets, if it tells only events below 64
module _ (E : ℕ) (inside : ℕ → ℕ → Bool) (small : (j e : ℕ) → inside j e ≡ true → e < 64) (bodies : List (List ℕ)) where
  component-formed : (c : ℕ) → WellFormed (component_over E inside bodies c)
  component-formed c =
      looped-formed (gen_of (shape_in E (slice_index_or bodies (c + 1) []))) (λ e. not (is_interface c) && inside (level_of c) e)
      (λ e h. small (level_of c) e (and_parts (not (is_interface c)) (inside (level_of c) e) h).1)
      (formed (shape_in E (slice_index_or bodies (c + 1) [])))

  pub over-formed : (len : ℕ) → AllFormed (list_over len E inside bodies)
  over-formed len = all-formed (component_over E inside bodies) component-formed 0 len

-- with a word for the alphabet of each level
pub words-formed : (len E : ℕ) (alphabets : List ℕ) (bodies : List (List ℕ)) → AllFormed (list_over len E (λ j e. member (slice_index alphabets j) e) bodies)
words-formed len E alphabets bodies =
    over-formed E (λ j e. member (slice_index alphabets j) e) (λ j e h. member-small (slice_index alphabets j) e h) bodies len

-- with a chart
module _ (chart : EventChart) (rules : WellCharted chart) where
  alphabet-small : (j e : ℕ) → alphabet_of chart j e ≡ true → e < 64
  alphabet-small zero e h = grind (arith, nat_tests, rules.few_events)
  alphabet-small (suc j) e h = grind (arith, nat_tests, rules.few_events)

  pub list-formed : (bodies : List (List ℕ)) → AllFormed (list_from chart bodies)
  list-formed bodies = over-formed chart.events (alphabet_of chart) alphabet-small bodies (components chart.levels)
