use Rattle.pol_compaction.proofs.Later.{later_alike}
use Rattle.pol_compaction.proofs.later_answers_alike.Goals as goal

pub returns : goal.returns
returns c = later_alike
