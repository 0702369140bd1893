use Rattle.pol_compaction.proofs.Shorter.{compaction_shorter}
use Rattle.pol_compaction.proofs.compaction_is_no_longer.Goals as goal

pub returns : goal.returns
returns c = compaction_shorter
