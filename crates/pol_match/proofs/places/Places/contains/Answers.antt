use Rattle.pol_match.proofs.PlaceSets.{has_by_shift}
use Rattle.pol_match.proofs.places.Places.contains.Goals as goal

pub returns : goal.returns
returns c = rw (← c.self.view_is) (has_by_shift c.self.inside.bits c.args.place)
