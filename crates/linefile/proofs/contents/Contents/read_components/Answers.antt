use Rattle.std.proofs.Common.{◌<◌, sym, refl, ◌∙◌, arith}
use Rattle.std.proofs.lemmas.Result.{err_from_is_err_and}
use Rattle.model.specs.Components.{components}
use Rattle.model.proofs.Turns.{turn-off}
use Rattle.makes.specs.Shapes.{shape}
use Rattle.linefile.specs.File.{component_reading}
use Rattle.linefile.proofs.ComponentSteps as steps
use Rattle.linefile.proofs.contents.Contents.read_components.Goals as goal

pub overflow_add-start : goal.overflow_add-start
overflow_add-start c =
    let z = steps.body-size c.args.self.now c.type_inv.self 0 (omega arith) in
    let h = steps.start-next c.args.self.now c.type_inv.self 0 (omega arith) in
    omega (arith, z, h, c.contents_end.ensures, c.args.self.now.small)

pub loop-component-init : goal.loop-component-init
loop-component-init c =
    let z = steps.body-size c.args.self.now c.type_inv.self 0 (omega arith) in record {
      start = omega (arith, z, c.contents_end.ensures);
      right = refl;
    }

pub overflow_cast-start : goal.overflow_cast-start
overflow_cast-start c =
    let h = steps.start-below c.args.self.now c.type_inv.self c.loop-component.component c.loop-component.start
    (omega (arith, c.components-component-end.ensures.value)) c.loop-component.invariant.start in
    omega (arith, h, c.args.self.now.small)

pub returns-in_err-read_at : goal.returns-in_err-read_at
returns-in_err-read_at c =
    let k = c.args.self.now in
    let lt : c.loop-component.component < components k.header.levels = omega (arith, c.components-component-end.ensures.value) in
    let told = c.in_err-read_at.ensures
    ∙ steps.component-told k c.type_inv.self c.loop-component.component c.from.result c.loop-component.start lt c.from.ensures c.loop-component.invariant.start
    c.events-events.result c.events-events.ensures.value in
    let p = err_from_is_err_and c.from_residual.result c.from_residual.ensures.1 in
    rw (p.1, p.2)
    (sym (turn-off (component_reading k.header.levels k.header.events k.file.now) c.loop-component.component c.in_err-read_at.field-0.0
    c.loop-component.invariant.right (sym told) (components k.header.levels) lt))

pub overflow_add-start-in-loop-component : goal.overflow_add-start-in-loop-component
overflow_add-start-in-loop-component c =
    let k = c.args.self.now in
    let h = steps.start-within k c.type_inv.self c.loop-component.component c.from.result c.loop-component.start
    (omega (arith, c.components-component-end.ensures.value)) c.from.ensures c.loop-component.invariant.start in
    omega (arith, h, k.small)

pub loop-component-preserved : goal.loop-component-preserved
loop-component-preserved c =
    let k = c.args.self.now in
    let lt : c.loop-component.component < components k.header.levels = omega (arith, c.components-component-end.ensures.value) in
    let told = c.in_ok-read_at.ensures
    ∙ steps.component-told k c.type_inv.self c.loop-component.component c.from.result c.loop-component.start lt c.from.ensures c.loop-component.invariant.start
    c.events-events.result c.events-events.ensures.value in record {
      start = steps.start-moves k c.type_inv.self c.loop-component.component c.from.result c.loop-component.start lt c.from.ensures c.loop-component.invariant.start;
      right = steps.component-on k c.type_inv.self k.header.events c.loop-component.component (shape c.in_ok-read_at.field-0) c.loop-component.invariant.right (sym told);
    }
