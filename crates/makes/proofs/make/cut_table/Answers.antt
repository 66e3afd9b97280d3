use Rattle.std.proofs.Common.{◌+◌}
use Rattle.std.proofs.lemmas.List.{drop-drop}
use Rattle.makes.proofs.make.cut_table.Goals as goal

pub returns : goal.returns
returns c =
    let marks = drop-drop c.args.events 3 c.args.body.now in
    let targets = drop-drop c.byte_or-count.result (3 + c.args.events) c.args.body.now in
    cc
