-- The components that a file view holds are those of the file. Assumes nothing.
use Rattle.std.proofs.Common.{◌≡◌, ℕ, zero, suc, ◌+◌, ◌*◌, ◌<◌, ◌≤◌, Bool, true, false, cond, not, ◌&&◌, ◌||◌, eqb, ltb, leb, List, [], ◌∷◌, map, length, get_or, Ok, Result, sym, refl, ap, ◌∙◌, ap₂, add-one, arith}
use mathlib.Core.Path.{fun_ext}
use Rattle.std.specs.List.{range_with_len}
use Rattle.std.proofs.lemmas.Bool.{leb-true}
use Rattle.model.specs.Charts.{EventChart}
use Rattle.model.specs.Components.{components, level_of, is_interface}
use Rattle.model.specs.Generators.{Gen}
use Rattle.model.specs.Readings.{provided}
use Rattle.model.specs.declared.fault.Fault.{Fault}
use Rattle.model.specs.declared.fault.Fault.TheVariants.{Contents, Event, Header, Level}
use Rattle.model.specs.declared.next.Next.{Next}
use Rattle.model.proofs.Turns.{provided-ok}
use Rattle.generators.specs.Selfloops.{loops, looped}
use Rattle.charts.specs.Headers.{Sizes, header_reading}
use Rattle.charts.specs.Rows.{rows_reading, chart_in, first_wrong, lacking}
use Rattle.makes.specs.Shapes.{shape_in}
use Rattle.makes.specs.Meanings.{gen_of}
use Rattle.linefile.specs.Bank.{alphabet_of, component_in, component_from, list_from}
use Rattle.linefile.specs.Layout.{body_of, Found}

or-false : (b : Bool) → (b || false) ≡ b
or-false b = grind arith

loops-none : (n s : ℕ) (x : Next) → loops n s false x ≡ x
loops-none n s x = grind arith

-- a layer with no event changes nothing
looped-none : (g : Gen) → looped g (λ e. false) ≡ g
looped-none g =
    ap₂ (λ (k : ℕ → Bool) (n : ℕ → ℕ → Next). let r : Gen = record { count = g.count; initial = g.initial; knows = k; marked = g.marked; next = n } in r)
    (fun_ext (λ e. or-false (g.knows e)))
    (fun_ext (λ s. fun_ext (λ e. loops-none g.count s (g.next s e))))

component-same : (chart : EventChart) (bodies : List (List ℕ)) (c : ℕ) (body : List ℕ) → get_or bodies (c + 1) [] ≡ body →
    component_from chart bodies c ≡ component_in chart c body
component-same chart bodies c body is =
    let g : Gen = gen_of (shape_in chart.events body) in
    let same : (b : Bool) → looped g (λ e. not b && alphabet_of chart (level_of c) e) ≡ cond b g (looped g (alphabet_of chart (level_of c))) =
    λ b. elim b as (λ (b : Bool). looped g (λ e. not b && alphabet_of chart (level_of c) e) ≡ cond b g (looped g (alphabet_of chart (level_of c)))) [
      | true ↦ looped-none g
      | false ↦ refl
    ] in
    rw is (same (is_interface c))

map_same : (f g : ℕ → Gen) (a n : ℕ) → ((c : ℕ) → a ≤ c → c < a + n → f c ≡ g c) → map f (range_with_len a n) ≡ map g (range_with_len a n)
map_same f g a zero h = refl
map_same f g a (suc n) h = ap₂ ◌∷◌ (h a (omega arith) (omega arith)) (map_same f g (a + 1) n (λ c l u. h c (omega arith) (omega arith)))

-- the view's list is the file's
pub list_same : (chart : EventChart) (file : List ℕ) (bodies : List (List ℕ)) → Found chart.levels file bodies →
    list_from chart bodies ≡ map (λ c. component_in chart c (body_of chart.levels file (suc c))) (range_with_len 0 (components chart.levels))
list_same chart file bodies found =
    map_same (component_from chart bodies) (λ c. component_in chart c (body_of chart.levels file (suc c))) 0 (components chart.levels)
    (λ c l u. component-same chart bodies c (body_of chart.levels file (suc c)) (found (c + 1) (omega arith) ∙ ap (body_of chart.levels file) (add-one c)))

all-passed : (a b c d : Bool) (e f g h : Fault) (x y : EventChart) → ◌≡◌ {A = Result EventChart Fault} (Ok y) (provided a e (provided b f (provided c g (provided d h (Ok x))))) → y ≡ x
all-passed a b c d e f g h x y k = grind arith

-- the chart that is read has the sizes of the header
pub rows-sizes : (n E : ℕ) (body : List ℕ) (origin : ℕ) (c : EventChart) → Ok c ≡ rows_reading n E body origin → (n ≡ c.levels) × (E ≡ c.events)
unfolding rows_reading chart_in
rows-sizes n E body origin c h =
    let wrong : ℕ = first_wrong n E body in
    let same : c ≡ chart_in n E body =
    all-passed (leb (3 * E) (length body)) (leb (length body) (3 * E)) (eqb wrong (3 * E)) (ltb n (lacking (chart_in n E body)))
    (Contents (origin + length body)) (Contents (origin + 3 * E)) (Event (origin + wrong)) (Level (lacking (chart_in n E body))) (chart_in n E body) c h in
    (sym (ap (λ (x : EventChart). x.levels) same), sym (ap (λ (x : EventChart). x.events) same))

-- a file whose header is read is short enough
pub header-small : (file : List ℕ) (s : Sizes) → Ok s ≡ header_reading file → length file ≤ 60000
header-small file s h = leb-true (length file) 60000 (provided-ok (leb (length file) 60000) (Header 60000) _ s h).0
