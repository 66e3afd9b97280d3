-- The sets that right rows give hold the chart that the rows say. Assumes nothing.
use Rattle.std.proofs.Common.{◌≡◌, ℕ, ◌+◌, ◌*◌, ◌<◌, ◌≤◌, Bool, true, eqb, List, get_or, sym, ap, ◌∙◌, ap₂, arith}
use mathlib.Core.Path.{fun_ext}
use Rattle.std.proofs.lemmas.Bool.Decides.{nat_tests}
use Rattle.model.specs.Charts.{EventChart, is_request, is_answer}
use Rattle.model.specs.Kinds.{kind_of}
use Rattle.model.specs.Readings.{or_bound}
use Rattle.model.specs.declared.kind.Kind.{Kind}
use Rattle.model.proofs.Finds.{is-first}
use Rattle.charts.specs.Rows.{owner_fits, chart_in}
use Rattle.charts.specs.RowSteps.{Gathered, RightBytes}
use Rattle.charts.specs.Sets.{owned_by, owner_in, kind_by, kind_in, chart_from, Agree}
use Rattle.charts.specs.declared.chart.Sets.{Sets}
use Rattle.charts.proofs.EventRows.{fits-owner, owner-le}

-- the kind by the owner and the letter
kind_fits : (n letter number : ℕ) → owner_fits n letter number ≡ true
    → kind_by (eqb number 0) (is_request (kind_of letter)) (is_answer (kind_of letter)) ≡ kind_of letter
kind_fits n letter number f = grind (arith, nat_tests)

module _ (n events : ℕ) (rows : List ℕ) (s : Sets) (few : n ≤ 8) (g : Gathered rows events s) (right : RightBytes n rows events) where
  owner-fits : (e : ℕ) → e < events → owner_fits n (get_or rows (3 * e) 0) (get_or rows (3 * e + 1) 0) ≡ true
  owner-fits e h = sym (fits-owner n rows e) ∙ right (3 * e + 1) (omega arith)

  owner-small : (e : ℕ) → e < events → get_or rows (3 * e + 1) 0 ≤ n
  owner-small e h = owner-le n (get_or rows (3 * e) 0) (get_or rows (3 * e + 1) 0) (owner-fits e h)

  owner_of : (e : ℕ) → e < events → owner_in s.owned e ≡ get_or rows (3 * e + 1) 0
  unfolding owner_in
  owner_of e h =
      let small = owner-small e h in
      ap (or_bound 0)
      (is-first 9 (λ j. owned_by s.owned j e) (get_or rows (3 * e + 1) 0)
      (record {
        within = omega arith;
        holds = grind (arith, nat_tests, g.owned (get_or rows (3 * e + 1) 0) e (omega arith));
        before = λ j q. grind (arith, nat_tests, g.owned j e (omega arith));
      }))

  kind-of : (e : ℕ) → e < events → kind_in s e ≡ kind_of (get_or rows (3 * e) 0)
  kind-of e h =
      let fits = kind_fits n (get_or rows (3 * e) 0) (get_or rows (3 * e + 1) 0) (owner-fits e h) in
      let o = g.owned 0 e (omega arith) in
      grind (arith, nat_tests, g.requests e, g.answers e)

  abbrev chart : (ℕ → Kind) → (ℕ → ℕ) → (ℕ → Bool) → EventChart
  chart k o u = record { levels = n; events = events; kind = k; owner = o; uncontrollable = u }

  pub gathered-chart : chart_from n events s ≡ chart_in n events rows
  unfolding chart_from chart_in
  gathered-chart =
      let k : (chart_from n events s).kind ≡ (chart_in n events rows).kind = fun_ext (λ e. grind (arith, nat_tests, kind-of e)) in
      let o : (chart_from n events s).owner ≡ (chart_in n events rows).owner = fun_ext (λ e. grind (arith, nat_tests, owner_of e)) in
      let u : (chart_from n events s).uncontrollable ≡ (chart_in n events rows).uncontrollable = fun_ext (λ e. grind (arith, nat_tests, g.uncontrollable e)) in
      ap₂ (λ x y. chart x y (chart_from n events s).uncontrollable) k o ∙ ap (chart (chart_in n events rows).kind (chart_in n events rows).owner) u

  pub gathered-agree : Agree n events s
  unfolding chart_from
  gathered-agree = record {
    owners = λ j e h. grind (arith, nat_tests, g.owned j e h, owner_of e);
    asking = λ e. grind (arith, nat_tests, g.requests e, kind-of e);
    answering = λ e. grind (arith, nat_tests, g.answers e, kind-of e);
    control = λ e. grind (arith, nat_tests, g.uncontrollable e);
    within = λ e h. grind (arith, nat_tests, owner-small e h, owner_of e h);
  }
