use Rattle.std.proofs.Common.{take}
use Rattle.pol_policy.specs.Places.{IsPlacesOf}
use Rattle.pol_policy.proofs.places.places_where.Given as goal

abbrev pub invariant-loop-place : goal.invariant-loop-place
invariant-loop-place g l = IsPlacesOf (g.T.Test.test l.test) (take l.place l.items) l.places
