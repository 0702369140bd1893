use Rattle.pol_renewed.proofs.Told.{tells_alike}
use Rattle.pol_renewed.proofs.compaction_tells_alike.Goals as goal

pub returns : goal.returns
returns c = tells_alike
