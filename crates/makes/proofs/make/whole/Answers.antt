use Rattle.std.proofs.Common.{◌<◌, ◌⊎◌, length, inl, inr, arith}
use Rattle.makes.specs.Bodies.{departure, body_size}
use Rattle.makes.proofs.Departures.{departure-small, departs, stands}
use Rattle.makes.proofs.make.whole.Goals as goal

pub overflow_cast-result : goal.overflow_cast-result
overflow_cast-result c = omega (arith, c.departure-place.ensures, c.size-end.ensures, departure-small c.args.body.now.events c.args.body.now.bytes.now)

pub overflow_add-result : goal.overflow_add-result
overflow_add-result c = omega (arith, c.departure-place.ensures, c.size-end.ensures, departure-small c.args.body.now.events c.args.body.now.bytes.now)

pub returns-then-place-body : goal.returns-then-place-body
returns-then-place-body c =
    let at = c.departure-place.ensures in
    let how : (departure c.args.body.now.events c.args.body.now.bytes.now < length c.args.body.now.bytes.now) ⊎ (departure c.args.body.now.events c.args.body.now.bytes.now < body_size c.args.body.now.events c.args.body.now.bytes.now) =
    elim c.then-place-body.either [ inl h ↦ inl (omega arith) | inr h ↦ inr (omega (arith, c.size-end.ensures)) ] in
    let e = departs c.args.body.now.events c.args.body.now.bytes.now c.args.component c.args.origin how in
    cc

pub returns : goal.returns
returns c =
    stands c.args.body.now.events c.args.body.now.bytes.now c.args.component c.args.origin (omega (arith, c.departure-place.ensures)) (omega (arith, c.departure-place.ensures))
