use Rattle.std.proofs.Common.{suc, [], ◌∷◌, ◌++◌}
use Rattle.std.proofs.lemmas.Result.{err_from_is_err_and}
use Rattle.hisc.specs.Lines.{components}
use Rattle.hisc.specs.Verdict.{alphabet_known, command_pair, level_tests, answers_accepted, high_nonblocking, high_controllable, listed}
use Rattle.points.specs.Whole.{line_whole}
use Rattle.points.proofs.Listing.{fails-left, fails-right, tried-after}
use Rattle.points.proofs.whole.Whole.ten_points.Goals as goal

pub returns-in_err-alphabets_known : goal.returns-in_err-alphabets_known
returns-in_err-alphabets_known g c =
    let l = line_whole c.args.self.now in
    let p = err_from_is_err_and c.from_residual.result c.from_residual.ensures.1 in
    rw (p.1, p.2) (fails-left l (listed (components l) (λ c. alphabet_known c ∷ [])) ((listed l.chart.levels (λ i. command_pair (suc i) ∷ [])) ++ ((listed l.chart.levels (λ i. level_tests (suc i))) ++ (answers_accepted ∷ high_nonblocking ∷ high_controllable ∷ []))) _ c.in_err-alphabets_known.ensures)

pub returns-in_err-command_pairs : goal.returns-in_err-command_pairs
returns-in_err-command_pairs g c =
    let l = line_whole c.args.self.now in
    let p = err_from_is_err_and c.from_residual-in_err-command_pairs.result c.from_residual-in_err-command_pairs.ensures.1 in
    rw (p.1, p.2) (fails-right l (listed (components l) (λ c. alphabet_known c ∷ [])) ((listed l.chart.levels (λ i. command_pair (suc i) ∷ [])) ++ ((listed l.chart.levels (λ i. level_tests (suc i))) ++ (answers_accepted ∷ high_nonblocking ∷ high_controllable ∷ []))) _ c.in_ok-alphabets_known.ensures (fails-left l (listed l.chart.levels (λ i. command_pair (suc i) ∷ [])) ((listed l.chart.levels (λ i. level_tests (suc i))) ++ (answers_accepted ∷ high_nonblocking ∷ high_controllable ∷ [])) _ c.in_err-command_pairs.ensures))

pub returns-in_err-low_points : goal.returns-in_err-low_points
returns-in_err-low_points g c =
    let l = line_whole c.args.self.now in
    let p = err_from_is_err_and c.from_residual-in_err-low_points.result c.from_residual-in_err-low_points.ensures.1 in
    rw (p.1, p.2) (fails-right l (listed (components l) (λ c. alphabet_known c ∷ [])) ((listed l.chart.levels (λ i. command_pair (suc i) ∷ [])) ++ ((listed l.chart.levels (λ i. level_tests (suc i))) ++ (answers_accepted ∷ high_nonblocking ∷ high_controllable ∷ []))) _ c.in_ok-alphabets_known.ensures (fails-right l (listed l.chart.levels (λ i. command_pair (suc i) ∷ [])) ((listed l.chart.levels (λ i. level_tests (suc i))) ++ (answers_accepted ∷ high_nonblocking ∷ high_controllable ∷ [])) _ c.in_ok-command_pairs.ensures (fails-left l (listed l.chart.levels (λ i. level_tests (suc i))) (answers_accepted ∷ high_nonblocking ∷ high_controllable ∷ []) _ c.in_err-low_points.ensures)))

pub returns : goal.returns
returns g c =
    let l = line_whole c.args.self.now in
    let r = c.top_points.result in
    tried-after l (listed (components l) (λ c. alphabet_known c ∷ [])) ((listed l.chart.levels (λ i. command_pair (suc i) ∷ [])) ++ ((listed l.chart.levels (λ i. level_tests (suc i))) ++ (answers_accepted ∷ high_nonblocking ∷ high_controllable ∷ []))) r c.in_ok-alphabets_known.ensures (tried-after l (listed l.chart.levels (λ i. command_pair (suc i) ∷ [])) ((listed l.chart.levels (λ i. level_tests (suc i))) ++ (answers_accepted ∷ high_nonblocking ∷ high_controllable ∷ [])) r c.in_ok-command_pairs.ensures (tried-after l (listed l.chart.levels (λ i. level_tests (suc i))) (answers_accepted ∷ high_nonblocking ∷ high_controllable ∷ []) r c.in_ok-low_points.ensures c.top_points.ensures))
