use Rattle.verdicts.proofs.SmallRuns as small
use Rattle.verdicts.proofs.worked.worked_entries.Goals as goal

pub returns-clause-entries : goal.returns-clause-entries
returns-clause-entries c = small.worked
