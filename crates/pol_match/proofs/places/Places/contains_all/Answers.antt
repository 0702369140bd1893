use Rattle.std.proofs.Common.{refl}
use Rattle.pol_match.specs.Places.{has_all}
use Rattle.pol_match.proofs.places.Places.contains_all.Goals as goal

pub returns : goal.returns
unfolding has_all
returns c = rw (← c.self.view_is, ← c.other.view_is) refl
