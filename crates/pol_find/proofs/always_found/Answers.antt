use Rattle.pol_find.proofs.Possible.{can_be_found, one_found}
use Rattle.pol_find.proofs.always_found.Goals as goal

pub returns : goal.returns
returns c = record { some = can_be_found; one = one_found }
