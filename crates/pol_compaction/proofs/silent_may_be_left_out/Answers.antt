use Rattle.pol_compaction.proofs.Silent.{silent_left_out}
use Rattle.pol_compaction.proofs.silent_may_be_left_out.Goals as goal

pub returns : goal.returns
returns c = silent_left_out
