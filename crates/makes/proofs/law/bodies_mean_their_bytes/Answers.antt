use Rattle.makes.proofs.Plain.{tables-plain, counters-plain, stocks-plain}
use Rattle.makes.proofs.law.bodies_mean_their_bytes.Goals as goal

pub returns : goal.returns
returns c = record { tables = tables-plain; counters = counters-plain; stocks = stocks-plain }
