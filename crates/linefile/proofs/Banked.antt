-- The list of a file view. Assumes nothing.
use Rattle.std.proofs.Common.{◌≡◌, ℕ, ◌<◌, ◌≤◌, Bool, List, [], length, get_or, refl, arith, Bor}
use mathlib.Core.Path.{fun_ext}
use Rattle.std.proofs.lemmas.List.FromFn.{length-map-range_with_len, get_or-map-range_with_len}
use Rattle.std.proofs.lemmas.List.{get_or_past, get_or-map}
use Rattle.model.specs.Charts.{EventChart}
use Rattle.model.specs.Components.{components}
use Rattle.model.specs.Generators.{nothing}
use Rattle.generators.specs.Selfloops.{looped}
use Rattle.makes.specs.Shapes.{Shape}
use Rattle.makes.specs.Meanings.{gen_of}
use Rattle.linefile.specs.Bank.{component_from, list_from}
use Rattle.linefile.specs.Layout.{texts}

module _ (chart : EventChart) (bodies : List (List ℕ)) where
  pub list_length : length (list_from chart bodies) ≡ components chart.levels
  list_length = length-map-range_with_len (component_from chart bodies) 0 (components chart.levels)

  pub list_at : (c : ℕ) → c < components chart.levels → get_or (list_from chart bodies) c nothing ≡ component_from chart bodies c
  list_at c h = get_or-map-range_with_len (component_from chart bodies) 0 (components chart.levels) c c nothing h (omega arith)

  pub list-past : (c : ℕ) → components chart.levels ≤ c → get_or (list_from chart bodies) c nothing ≡ nothing
  list-past c h = get_or_past (list_from chart bodies) c nothing (let n = list_length in omega (arith, n))

-- a component's parts give the component
pub component-is : (s t : Shape) (p q : ℕ → Bool) → s ≡ t → ((e : ℕ) → p e ≡ q e) → looped (gen_of s) p ≡ looped (gen_of t) q
component-is s t p q h k = let z : p ≡ q = fun_ext k in rw (h, z) refl

-- the text at a place of an array of references
pub text_at : (bs : List (Bor (List ℕ))) (i : ℕ) (d : Bor (List ℕ)) → i < length bs → get_or (texts bs) i [] ≡ (get_or bs i d).now
text_at bs i d h = get_or-map (λ (r : Bor (List ℕ)). r.now) bs i d [] h
