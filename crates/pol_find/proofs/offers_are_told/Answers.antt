use Rattle.pol_find.proofs.Offered.{offers_are_told}
use Rattle.pol_find.proofs.offers_are_told.Goals as goal

pub returns : goal.returns
returns c = offers_are_told
