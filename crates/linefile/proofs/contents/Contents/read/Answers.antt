use Rattle.std.proofs.Common.{sym, refl, arith}
use Rattle.std.proofs.lemmas.Result.{err_from_is_err_and}
use Rattle.charts.specs.Meanings.{header_meaning}
use Rattle.linefile.proofs.ComponentSteps.{nowhere}
use Rattle.linefile.proofs.FileSteps.{opened-header, opened-contents, opened-whole}
use Rattle.linefile.proofs.Rows.{first-length, contents-short, contents-row, contents-events, contents-spare, contents-whole}
use Rattle.linefile.proofs.Same.{header-small}
use Rattle.linefile.proofs.contents.Contents.read.Goals as goal

pub returns-in_err-header : goal.returns-in_err-header
returns-in_err-header c =
    let p = err_from_is_err_and c.from_residual.result c.from_residual.ensures.1 in
    rw (p.1, p.2) (record { told = opened-header c.args.file.now c.in_err-header.field-0.0 c.in_err-header.ensures; same = tt })

pub returns-then-file-contents_end : goal.returns-then-file-contents_end
returns-then-file-contents_end c =
    let h = c.in_ok-header.header in
    record {
      told = opened-contents c.args.file.now (header_meaning h) c.in_ok-header.ensures _
          (contents-short h.levels h.events c.args.file.now (omega (arith, c.contents_end.ensures)));
      same = tt;
    }

pub returns-in_err-bodies : goal.returns-in_err-bodies
returns-in_err-bodies c =
    let p = err_from_is_err_and c.from_residual-in_err-bodies.result c.from_residual-in_err-bodies.ensures.1 in
    let h = c.in_ok-header.header in
    let f = c.args.file.now in
    rw (p.1, p.2)
    (record {
      told = opened-contents f (header_meaning h) c.in_ok-header.ensures c.in_err-bodies.field-0.0
          (contents-row h.levels h.events f (omega (arith, c.contents_end.ensures)) c.in_err-bodies.field-0.0 c.in_err-bodies.ensures.told);
      same = tt;
    })

pub returns-then-bodies-from : goal.returns-then-bodies-from
returns-then-bodies-from c =
    let h = c.in_ok-header.header in
    let f = c.args.file.now in
    let e = c.in_ok-bodies.ensures in
    let n = first-length h.levels f c.in_ok-bodies.field-0.bodies nowhere (omega (arith, e.laid.3)) e.laid.0 e.told in
    record {
      told = opened-contents f (header_meaning h) c.in_ok-header.ensures _
          (contents-events h.levels h.events f (omega (arith, c.contents_end.ensures)) e.told (λ q. omega (arith, n, q, c.from.ensures, c.events.ensures.value)));
      same = tt;
    }

pub returns-then-end-file : goal.returns-then-end-file
returns-then-end-file c =
    let h = c.in_ok-header.header in
    let f = c.args.file.now in
    let e = c.in_ok-bodies.ensures in
    let n = first-length h.levels f c.in_ok-bodies.field-0.bodies nowhere (omega (arith, e.laid.3)) e.laid.0 e.told in
    record {
      told = opened-contents f (header_meaning h) c.in_ok-header.ensures _
          (contents-spare h.levels h.events f (omega (arith, c.contents_end.ensures)) e.told (omega (arith, n, c.from.ensures, c.events.ensures.value))
          c.in_ok-bodies.field-0.end e.laid.1 c.if-end-file.true);
      same = tt;
    }

pub invariant_of-result : goal.invariant_of-result
invariant_of-result c =
    let e = c.in_ok-bodies.ensures in record {
      small = header-small c.args.file.now (header_meaning c.in_ok-header.header) c.in_ok-header.ensures;
      right = sym e.told;
      found = e.laid.0;
    }

pub returns : goal.returns
returns c =
    let h = c.in_ok-header.header in
    let f = c.args.file.now in
    let e = c.in_ok-bodies.ensures in
    let n = first-length h.levels f c.in_ok-bodies.field-0.bodies nowhere (omega (arith, e.laid.3)) e.laid.0 e.told in
    record {
      told = opened-whole f (header_meaning h) c.in_ok-header.ensures
          (contents-whole h.levels h.events f (omega (arith, c.contents_end.ensures)) e.told (omega (arith, n, c.from.ensures, c.events.ensures.value))
          (omega (arith, e.laid.1, e.laid.2)));
      same = refl;
    }
