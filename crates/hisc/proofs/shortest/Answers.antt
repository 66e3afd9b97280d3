use Rattle.hisc.proofs.ShortestWords as words
use Rattle.hisc.proofs.shortest.Goals as goal

pub returns : goal.returns
returns c = words.shortest
