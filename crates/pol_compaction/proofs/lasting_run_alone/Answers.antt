use Rattle.pol_compaction.proofs.Alone.{lasting_alone}
use Rattle.pol_compaction.proofs.lasting_run_alone.Goals as goal

pub returns : goal.returns
returns c = lasting_alone
