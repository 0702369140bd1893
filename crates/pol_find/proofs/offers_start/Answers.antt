use Rattle.pol_find.proofs.Starting.{offers_start, told_offers_start}
use Rattle.pol_find.proofs.offers_start.Goals as goal

pub returns : goal.returns
returns c = record { each = offers_start; told = told_offers_start }
