-- Every chart keeps the rules. Assumes nothing.
use Rattle.std.proofs.Common.{◌≡◌, ℕ, ◌<◌, ◌≤◌, Bool, true, false, sym, ap, ◌∙◌, arith}
use Rattle.std.proofs.lemmas.Bool.Decides.{nat_tests}
use Rattle.model.specs.Charts.{EventChart, WellCharted, is_high, in_level}
use Rattle.model.specs.Sets.{member}
use Rattle.model.specs.declared.kind.Kind.TheVariants.{Low}
use Rattle.charts.specs.Meanings.{chart_of}
use Rattle.charts.specs.Sets.{owned_by, kind_by, kind_in, chart_from}
use Rattle.charts.specs.declared.chart.Chart.{Chart}
use Rattle.charts.specs.declared.chart.Sets.{Sets}

high-by : (h r a : Bool) → is_high (kind_by h r a) ≡ h
high-by h r a = grind arith

-- an event has the owner j if it is in the alphabet of level j
pub owner-from : (c : EventChart) (j e : ℕ) → in_level c j e ≡ true → (e < c.events) × (c.owner e ≡ j)
owner-from c j e h = grind (arith, nat_tests)

pub kind-within : (levels events : ℕ) (s : Sets) (e : ℕ) → e < events → (chart_from levels events s).kind e ≡ kind_in s e
unfolding chart_from
kind-within levels events s e h = grind (arith, nat_tests)

pub well-charted : (c : Chart) → WellCharted (chart_of c)
unfolding chart_of chart_from
well-charted c =
    let d : EventChart = chart_from c.header.levels c.header.events c.sets in
    let high : (e : ℕ) → e < d.events → is_high (d.kind e) ≡ in_level d 0 e = λ e h.
    ap is_high (kind-within c.header.levels c.header.events c.sets e h)
    ∙ high-by (owned_by c.sets.owned 0 e) (member c.sets.requests.word e) (member c.sets.answers.word e)
    ∙ c.agree.owners 0 e (omega arith) in
    record {
      some_level = c.header.sizes.0;
      few_levels = c.header.sizes.1;
      some_event = c.header.sizes.2;
      few_events = c.header.sizes.3;
      high_owner = λ e h k. (owner-from d 0 e (sym (high e h) ∙ k)).1;
      low_owner = λ e h k. let w = c.agree.within e h in let i = high e h in grind (arith, nat_tests);
      requests = λ j l. c.asked j l.0 l.1;
      answers = λ j l. c.answered j l.0 l.1;
    }

-- beyond the last event a chart says nothing
pub beyond : (c : Chart) (e : ℕ) → (chart_of c).events ≤ e → ((chart_of c).kind e ≡ Low) × ((chart_of c).owner e ≡ 0) × ((chart_of c).uncontrollable e ≡ false)
unfolding chart_of chart_from
beyond c e h = grind (arith, nat_tests)
