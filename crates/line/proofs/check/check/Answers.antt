use Rattle.std.proofs.Common.{refl}
use Rattle.line.specs.Lent.{lent}
use Rattle.line.proofs.Judging.{checked-of}
use Rattle.line.proofs.Rows.{law-of}
use Rattle.line.proofs.check.check.Goals as goal

pub invariant_of-result : goal.invariant_of-result
invariant_of-result g c = record { checked = ∣ checked-of g.B.Bank.list c.args.line (lent c.args.cells.now) c.in-Ok.ensures ∣₁ }

pub returns-in-Ok-clause-judged : goal.returns-in-Ok-clause-judged
returns-in-Ok-clause-judged g c =
    let line = c.args.line in
    let list = g.B.Bank.list in
    record {
      verdict = c.in-Ok.ensures;
      same_line = refl;
      law = law-of list line (g.B.Bank.formed line.bank) (checked-of list line (lent c.args.cells.now) c.in-Ok.ensures);
    }
