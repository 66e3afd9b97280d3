use Rattle.std.proofs.Common.{◌≡◌, ℕ, ◌<◌, Bool, cond, length, sym, refl, ap, ◌∙◌, arith}
use Rattle.std.proofs.lemmas.Bool.{le-leb, lt-leb}
use Rattle.model.specs.declared.fault.Fault.TheVariants.{PossibleSlice}
use Rattle.hisc.specs.Calls.{Possible, events, refused, acceptable, passing}
use Rattle.hisc.specs.Lines.{flat, possible}
use Rattle.line.specs.Answers.{line_in, state_in}
use Rattle.line.proofs.Answering.{answered-same, stepped-possible, stepped-impossible}
use Rattle.line.proofs.Listing.{listing-skip, listing-put}
use Rattle.line.proofs.running.Running.possible.Goals as goal
use Rattle.line.proofs.running.Running.possible.Goals.{then-is_ok, else-is_ok}

pub returns-then-out-lt64-clause-answered : goal.returns-then-out-lt64-clause-answered
returns-then-out-lt64-clause-answered g c =
    let s = c.args.self.now in
    let n = length c.args.out.now in
    answered-same s (Possible n) (refused PossibleSlice)
    (sym (ap (λ (b : Bool). cond b (events (acceptable (line_in s) (state_in s))) (refused PossibleSlice)) (lt-leb 64 n c.if-out-lt64.true))) refl

pub loop-event-preserved : goal.loop-event-preserved
loop-event-preserved g c =
    let s = c.args.self.now in
    let can = possible (line_in s) (flat (line_in s)) (state_in s) in
    let before = c.args.out.now in
    let out = c.loop-event.out in
    let n = c.loop-event.event in
    let k = c.loop-event.count in
    elim c.if-is_ok.branch [
      | then-is_ok w ↦
          let room : k < length out = omega (arith, c.loop-event.invariant.few, c.events-event-end.ensures.rules.few_events, c.events-event-end.ensures.value) in
          let put = listing-put can before out k n (stepped-possible s n c.step.result (sym c.is_ok.ensures.value ∙ w.if-is_ok.true) c.step.ensures) room c.loop-event.invariant in
          rw (w.out-is, w.count-is) put
      | else-is_ok w ↦
          let skip = listing-skip can before out k n (stepped-impossible s n c.step.result (sym c.is_ok.ensures.value ∙ w.if-is_ok.false) c.step.ensures) c.loop-event.invariant in
          rw (w.out-is, w.count-is) skip
    ]

pub returns-clause-answered : goal.returns-clause-answered
returns-clause-answered g c =
    let s = c.args.self.now in
    let n = length c.args.out.now in
    let all : c.loop-event.event ≡ (line_in s).chart.events = omega (arith, c.events-event-end.ensures.value) in
    let front = c.loop-event.invariant.front ∙ ap (λ (m : ℕ). passing m (possible (line_in s) (flat (line_in s)) (state_in s))) all in
    answered-same s (Possible n) _
    (ap events front ∙ sym (ap (λ (b : Bool). cond b (events (acceptable (line_in s) (state_in s))) (refused PossibleSlice)) (le-leb 64 n c.if-out-lt64.false))) refl
