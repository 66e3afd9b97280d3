use Rattle.std.proofs.Common.{subst, ◌∙◌, arith}
use Rattle.std.proofs.lemmas.Result.{err_from_is_err_and}
use Rattle.hisc.specs.Calls.{Guide, guidance}
use Rattle.hisc.specs.declared.guide.Guidance.{Guidance}
use Rattle.line.specs.Answers.{Answered}
use Rattle.line.specs.Lent.{lent}
use Rattle.line.proofs.Homing.{going-none, going_more, going-accepted, going-home, going-short}
use Rattle.line.proofs.running.Running.go_home.Goals as goal
use Rattle.line.proofs.running.Running.go_home.Goals.{else-loop-offers-test, then-loop-offers-test+in_ok-event+in-Event+in_ok-offer+else-offers-offers-end}

pub loop-offers-init : goal.loop-offers-init
loop-offers-init g c = going-none c.args.self.now (lent c.args.cells.now)

pub returns-in_err-event : goal.returns-in_err-event
returns-in_err-event g c =
    let p = err_from_is_err_and c.from_residual.result c.from_residual.ensures.1 in
    let going = c.loop-offers.invariant in
    rw (p.1, p.2) (record {
      home = going-short c.args.self.now (lent c.args.cells.now) c.loop-offers.self (lent c.loop-offers.cells) c.loop-offers.offers going c.in_err-event.field-0.0 c.in_err-event.ensures.answered;
      lengths = c.in_err-event.ensures.lengths ∙ going.lent;
    })

pub returns-in_default : goal.returns-in_default
returns-in_default g c =
    let going = c.loop-offers.invariant in
    record {
      home = going-home c.args.self.now (lent c.args.cells.now) c.loop-offers.self (lent c.loop-offers.cells) c.loop-offers.offers going c.in_ok-event.field-0 c.in_default.not-Event c.in_ok-event.ensures.answered;
      lengths = c.in_ok-event.ensures.lengths ∙ going.lent;
    }

pub returns-in_err-offer : goal.returns-in_err-offer
returns-in_err-offer g c =
    let s = c.loop-offers.self in
    let used = lent c.loop-offers.cells in
    let named = subst (λ (x : Guidance). Answered s s (Guide used) (guidance x)) c.in-Event.is c.in_ok-event.ensures.answered in
    absurd (going-accepted c.args.self.now (lent c.args.cells.now) s used c.loop-offers.offers c.loop-offers.invariant c.offer.new.self c.in-Event.event c.in_err-offer.field-0.0 named c.in_err-offer.ensures)

pub loop-offers-preserved : goal.loop-offers-preserved
loop-offers-preserved g c =
    let s = c.loop-offers.self in
    let used = lent c.loop-offers.cells in
    let named = subst (λ (x : Guidance). Answered s s (Guide used) (guidance x)) c.in-Event.is c.in_ok-event.ensures.answered in
    going_more c.args.self.now (lent c.args.cells.now) s used c.loop-offers.offers c.loop-offers.invariant c.offer.new.self c.in-Event.event named c.in_ok-offer.ensures _ c.in_ok-event.ensures.lengths

pub unreachable-requires : goal.unreachable-requires
unreachable-requires g c =
    let s = c.loop-offers.self in
    let used = lent c.loop-offers.cells in
    elim c.loop-offers-test.branch [
      | else-loop-offers-test w ↦ omega arith
      | then-loop-offers-test+in_ok-event+in-Event+in_ok-offer+else-offers-offers-end w ↦
          let named = subst (λ (x : Guidance). Answered s s (Guide used) (guidance x)) w.in-Event.is w.in_ok-event.ensures.answered in
          let more = going_more c.args.self.now (lent c.args.cells.now) s used c.loop-offers.offers c.loop-offers.invariant w.offer.new.self w.in-Event.event named w.in_ok-offer.ensures _ w.in_ok-event.ensures.lengths in
          omega (arith, more.few, c.most_offers-offers-end.ensures)
    ]
