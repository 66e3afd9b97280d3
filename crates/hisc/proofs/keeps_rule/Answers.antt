use Rattle.hisc.proofs.Rules as rules
use Rattle.hisc.proofs.keeps_rule.Goals as goal

pub returns : goal.returns
returns c = rules.keeps-rule
