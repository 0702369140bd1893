use Rattle.pol_compaction.proofs.Settled.{settled_again}
use Rattle.pol_compaction.proofs.again_changes_nothing.Goals as goal

pub returns : goal.returns
returns c = settled_again
