use Rattle.std.proofs.Common.{◌+◌, ◌-◌, ◌<◌, eqb, get_or, arith, rules, inl, inr}
use Rattle.std.proofs.iter.runs.Sources.{ranges, range_listed}
use Rattle.std.proofs.lemmas.Bool.{cases_Bool}
use Rattle.model.proofs.Finds.{any_some}
use Rattle.makes.proofs.Columns.{apart-told}
use Rattle.makes.proofs.fits.Body.column_fits.Goals as goal

pub returns-then-event-self : goal.returns-then-event-self
returns-then-event-self c =
    let body = c.args.self.now.bytes.now in
    let run = c.any.ensures.runs.0 in
    let up = (range_listed run run.seen).4 in
    apart-told c.args.self.now.events body c.args.place c.any.result c.requires (λ e. c.if-event.false (search rules)) (omega (arith, c.byte-event.ensures))
    (λ t.
    let i = any_some (c.args.place - 2) (λ k. eqb (get_or body (2 + k) 0) (get_or body c.args.place 0)) t in
    elim (cases_Bool c.any.result) [
      | inl t ↦ t
      | inr f ↦
          let within : i.0 < run.len = search (rules, ranges) in
          let at = up.3 i.0 within in
          search (rules, ranges, at, i.2)
    ])
    (λ none. search (rules, ranges, none))
