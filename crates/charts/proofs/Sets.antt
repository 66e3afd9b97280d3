-- The sets of a chart as alphabets. Assumes nothing.
use Rattle.std.proofs.Common.{◌≡◌, ℕ, ◌<◌, ◌≤◌, Bool, true, false, cond, not, ◌||◌, ltb, Some, None, Option, refl, arith}
use Rattle.std.proofs.lemmas.Bool.Decides.{nat_tests}
use Rattle.model.specs.Charts.{is_low, in_high, in_level}
use Rattle.model.specs.Sets.{member}
use Rattle.charts.specs.Alphabets.{kind_at, owner_at}
use Rattle.charts.specs.Meanings.{chart_of}
use Rattle.charts.specs.Sets.{owned_by, kind_by, kind_in, chart_from}
use Rattle.charts.specs.declared.chart.Chart.{Chart}

not_low : (h r a : Bool) → ((h || r) || a) ≡ not (is_low (kind_by h r a))
not_low h r a = grind arith

module _ (c : Chart) where
  -- the kind by the sets
  pub kind-at : (e : ℕ) → kind_at (chart_of c) e ≡ cond (ltb e c.header.events) (Some (kind_in c.sets e)) None
  unfolding chart_of chart_from
  kind-at e = grind (arith, nat_tests)

  pub in-high : (e : ℕ) → ((owned_by c.sets.owned 0 e || member c.sets.requests.word e) || member c.sets.answers.word e) ≡ in_high (chart_of c) e
  unfolding chart_of chart_from
  in-high e =
      let o = c.agree.owners 0 e (omega arith) in
      let r = c.agree.asking e in
      let a = c.agree.answering e in
      let n = not_low (owned_by c.sets.owned 0 e) (member c.sets.requests.word e) (member c.sets.answers.word e) in
      grind (arith, nat_tests)

  -- no event is owned by a level beyond the last
  pub beyond-levels : (j e : ℕ) → 8 < j → in_level (chart_of c) j e ≡ false
  unfolding chart_of chart_from
  beyond-levels j e h = grind (arith, nat_tests, c.agree.within e, c.header.sizes.1)

  -- the owner is the level whose alphabet has the event
  pub owner-told : (e : ℕ) (o : Option ℕ) → ((j : ℕ) → o ≡ Some j → in_level (chart_of c) j e ≡ true)
      → (o ≡ None → (j : ℕ) → j ≤ c.header.levels → in_level (chart_of c) j e ≡ false) → o ≡ owner_at (chart_of c) e
  unfolding chart_of chart_from
  owner-told e (Some j) some none = grind (arith, nat_tests, some j refl)
  owner-told e None some none = grind (arith, nat_tests, c.agree.within e, none refl ((chart_of c).owner e))
