use Rattle.std.proofs.Common.{◌≡◌, ℕ, ◌+◌, ◌-◌, List, length, get_or, take, drop, sym, refl, ap, ◌∙◌, arith, ltb-false}
use Rattle.std.proofs.lemmas.List.{get_or-take, get_or-drop, length-take, length-drop, length-set}
use Rattle.std.proofs.lemmas.Result.{err_from_is_err_and}
use Rattle.model.proofs.Turns.{turn-off}
use Rattle.linefile.specs.Layout.{row_reading, rows, body_of}
use Rattle.linefile.proofs.Rows.{past-length, past-at, texts-more, start_is, length-is, row-off, row_on, start-on, turns-on}
use Rattle.linefile.proofs.contents.Laid.read.Goals as goal

pub loop-left-init : goal.loop-left-init
loop-left-init c =
    let S : ℕ = c.contents_end-end.result - 3 in
    let f : List ℕ = c.args.file.now in
    let n : length (take S (drop 3 f)) ≡ S = simp (length-take, length-drop) (omega arith) in (
      omega (arith, n),
      omega arith,
      refl,
      (λ j h. get_or-take S (drop 3 f) j 0 (omega (arith, n)) ∙ get_or-drop 3 f j 0),
      (λ i h. absurd (omega arith)),
      c.contents_end-end.ensures,
      refl,
    )

pub returns-in_err-body : goal.returns-in_err-body
returns-in_err-body c =
    let f : List ℕ = c.args.file.now in
    let n : ℕ = c.args.header.levels in
    let left : List ℕ = c.loop-left.left.now in
    let s = c.number-start.ensures ∙ start_is f left c.loop-left.row (omega (arith, ltb-false)) c.loop-left.invariant.3 in
    let z = c.number-size.ensures ∙ length-is f left c.loop-left.row (omega (arith, ltb-false)) c.loop-left.invariant.3 in
    let off = row-off n f c.loop-left.row _ _ _ s z c.loop-left.invariant.5 c.in_err-body.field-0.0 c.in_err-body.ensures in
    let p = err_from_is_err_and c.from_residual.result c.from_residual.ensures.1 in
    rw (p.1, p.2)
    (record {
      told = sym (turn-off (row_reading n f) c.loop-left.row c.in_err-body.field-0.0 c.loop-left.invariant.6 off (rows n) (omega (arith, ltb-false)));
      laid = tt;
    })

pub loop-left-preserved : goal.loop-left-preserved
loop-left-preserved c =
    let f : List ℕ = c.args.file.now in
    let n : ℕ = c.args.header.levels in
    let left : List ℕ = c.loop-left.left.now in
    let m = past-length 4 left in
    let s = c.number-start.ensures ∙ start_is f left c.loop-left.row (omega (arith, ltb-false)) c.loop-left.invariant.3 in
    let z = c.number-size.ensures ∙ length-is f left c.loop-left.row (omega (arith, ltb-false)) c.loop-left.invariant.3 in
    let on = row_on n f c.loop-left.row _ _ _ s z c.loop-left.invariant.5 c.in_ok-body.body.now c.in_ok-body.ensures in (
      omega (arith, ltb-false),
      on.ends,
      length-set _ _ _ ∙ c.loop-left.invariant.2,
      (λ j h. past-at 4 left j ∙ c.loop-left.invariant.3 (4 + j) (omega (arith, ltb-false)) ∙ ap (λ k. get_or f k 0) (omega arith)),
      texts-more (body_of n f) c.loop-left.bodies c.loop-left.row c.in_ok-body.body (omega (arith, ltb-false)) on.is c.loop-left.invariant.4,
      start-on n f c.loop-left.row _ _ c.loop-left.invariant.5 z,
      turns-on n f c.loop-left.row c.loop-left.invariant.6 on.reads,
    )
