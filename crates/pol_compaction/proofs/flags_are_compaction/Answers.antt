use Rattle.pol_compaction.proofs.Flags.{flags_are_compaction}
use Rattle.pol_compaction.proofs.flags_are_compaction.Goals as goal

pub returns : goal.returns
returns c = flags_are_compaction
