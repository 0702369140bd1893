use Rattle.pol_match.proofs.Told.{each_rightly}
use Rattle.pol_match.proofs.laws.told_rightly.Goals as goal

pub returns : goal.returns
returns c = each_rightly
