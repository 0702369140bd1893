use Rattle.pol_compaction.proofs.Worked.{example_computed}
use Rattle.pol_compaction.proofs.example_is_compacted.Goals as goal

pub returns : goal.returns
returns c = example_computed
