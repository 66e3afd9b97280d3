use Rattle.hisc.proofs.Laws as laws
use Rattle.hisc.proofs.lawful.Goals as goal

pub returns : goal.returns
returns c = laws.lawful
