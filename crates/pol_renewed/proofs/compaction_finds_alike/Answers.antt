use Rattle.pol_renewed.proofs.Found.{finds_alike}
use Rattle.pol_renewed.proofs.compaction_finds_alike.Goals as goal

pub returns : goal.returns
returns c = finds_alike
