use Rattle.hisc.proofs.Replies.{calls-agree}
use Rattle.walks.specs.Given.{line_given}
use Rattle.line.proofs.Known.{checked_in}
use Rattle.line.proofs.Rows.{law-of, assured-of}
use Rattle.line.proofs.calls.make.Goals as goal

pub returns-clause-law : goal.returns-clause-law
returns-clause-law g c =
    let line = c.args.passed.line in law-of g.B.Bank.list line (g.B.Bank.formed line.bank) (checked_in c.args.passed)

pub returns-clause-agree : goal.returns-clause-agree
returns-clause-agree g c = calls-agree (line_given g.B.Bank.list c.args.passed.line)

pub returns-clause-assured : goal.returns-clause-assured
returns-clause-assured g c =
    let line = c.args.passed.line in assured-of g.B.Bank.list line (g.B.Bank.formed line.bank) c.begin-row.result c.begin-row.ensures.runs
