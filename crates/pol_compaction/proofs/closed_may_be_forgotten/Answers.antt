use Rattle.pol_compaction.proofs.Forgotten.{closed_forgotten}
use Rattle.pol_compaction.proofs.closed_may_be_forgotten.Goals as goal

pub returns : goal.returns
returns c = closed_forgotten
