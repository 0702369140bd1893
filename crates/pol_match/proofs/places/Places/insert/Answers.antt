use Rattle.pol_match.proofs.PlaceSets.{in_more}
use Rattle.pol_match.proofs.places.Places.insert.Goals as goal

pub returns : goal.returns
returns c = λ other. rw (← c.self.view_is) (in_more c.self.inside.bits c.args.place other c.requires)
