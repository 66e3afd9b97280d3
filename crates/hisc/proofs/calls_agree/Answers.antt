use Rattle.hisc.proofs.Replies as replies
use Rattle.hisc.proofs.calls_agree.Goals as goal

pub returns : goal.returns
returns c = replies.calls-agree
