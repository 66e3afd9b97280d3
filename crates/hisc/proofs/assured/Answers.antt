use Rattle.hisc.proofs.Laws as laws
use Rattle.hisc.proofs.assured.Goals as goal

pub returns : goal.returns
returns c = laws.assured
