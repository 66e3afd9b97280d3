use Rattle.std.proofs.Common.{sym}
use Rattle.std.proofs.lemmas.Result.{err_from_is_err_and}
use Rattle.verdicts.specs.Verdicts.{unread, told_in}
use Rattle.verdicts.proofs.Telling.{chart-unread, bank-unread, line_read, told-so}
use Rattle.verdicts.proofs.verdict.Verdict.on.Goals as goal

pub returns-in_err-chart-clause-answer : goal.returns-in_err-chart-clause-answer
returns-in_err-chart-clause-answer c =
    let p = err_from_is_err_and c.from_residual.result c.from_residual.ensures.1 in
    rw (p.1, p.2)
    (unread (chart-unread c.args.file.now _ (sym c.in_err-chart.ensures)))

pub returns-in_err-bank-clause-answer : goal.returns-in_err-bank-clause-answer
returns-in_err-bank-clause-answer c =
    let p = err_from_is_err_and c.from_residual-in_err-bank.result c.from_residual-in_err-bank.ensures.1 in
    rw (p.1, p.2)
    (unread (bank-unread c.args.file.now _ (sym c.in_ok-chart.ensures) _ (sym c.in_err-bank.ensures)))

pub returns-clause-answer : goal.returns-clause-answer
returns-clause-answer c =
    let file = c.args.file.now in
    let read = line_read file _ (sym c.in_ok-chart.ensures) _ (sym c.in_ok-bank.ensures) in
    told-so file _ read _ (told_in c.judge.result) c.judge.ensures.answer
