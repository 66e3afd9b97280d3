use Rattle.hisc.proofs.Verdicts as verdicts
use Rattle.hisc.proofs.one_answer.Goals as goal

pub returns : goal.returns
returns c = verdicts.one_answer
