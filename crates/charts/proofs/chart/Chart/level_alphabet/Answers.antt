use Rattle.std.proofs.Common.{arith, inl, inr}
use Rattle.std.proofs.lemmas.Bool.{cases_lt}
use Rattle.std.proofs.lemmas.Bool.Decides.{nat_tests}
use Rattle.model.proofs.Bitwords.{member-zero}
use Rattle.charts.specs.Meanings.{chart_of}
use Rattle.charts.proofs.Sets.{beyond-levels}
use Rattle.charts.proofs.chart.Chart.level_alphabet.Goals as goal

pub returns : goal.returns
unfolding chart_of
returns c e =
    elim (cases_lt c.args.level 9) [
      | inl k ↦ let h = c.args.self.now.agree.owners c.args.level e (omega arith) in grind (arith, nat_tests)
      | inr k ↦ let h = beyond-levels c.args.self.now c.args.level e (omega arith) in let z = member-zero e in grind (arith, nat_tests)
    ]
