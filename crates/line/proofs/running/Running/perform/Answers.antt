use Rattle.std.proofs.Common.{◌≡◌, ◌+◌, length, sym, ap, subst, arith, ◌∙◌}
use Rattle.line.specs.Lent.{lent}
use Rattle.line.specs.Queues.{reply_of}
use Rattle.line.specs.declared.queue.Call.TheVariants.{Offer}
use Rattle.line.proofs.Performing.{Performing, one_if, refused-is, performing-more}
use Rattle.line.proofs.running.Running.perform.Goals as goal
use Rattle.line.proofs.running.Running.perform.Goals.{then-is_err, else-is_err}

pub loop-call-preserved : goal.loop-call-preserved
loop-call-preserved g c =
    let first = c.args.self.now in
    let bytes = length c.args.out.now in
    let cells = lent c.args.cells.now in
    let left = lent c.answer.new.cells in
    let queue = c.args.calls.now in
    let i = c.loop-call.call-index in
    let n = c.loop-call.refused in
    let last = c.answer.new.self in
    let is = refused-is c.answer.new.out c.answer.result ∙ sym c.is_err.ensures.value in
    let count : c.if-is_err.refused ≡ n + one_if c.is_err.result =
    elim c.if-is_err.branch [
      | then-is_err w ↦ w.refused-is ∙ sym (ap (λ b. n + one_if b) w.if-is_err.true)
      | else-is_err w ↦ omega (arith, w.refused-is, ap one_if w.if-is_err.false)
    ] in
    subst (Performing first bytes cells queue last left (i + 1)) (sym count)
    (performing-more first bytes cells queue c.loop-call.self last i n (Offer 0) (length c.loop-call.out) (lent c.loop-call.cells) left c.loop-call.auto.out c.answer.ensures.lengths
    (reply_of c.answer.new.out c.answer.result) c.is_err.result is c.loop-call-test.true c.answer.ensures.answered c.loop-call.invariant)
