use Rattle.std.proofs.Common.{arith}
use Rattle.pol_match.proofs.PlaceSets.{within_by_rest, first_by_rest}
use Rattle.pol_match.proofs.places.Places.first_beyond.Goals as goal

pub returns-then-rest-eq0-clause-none : goal.returns-then-rest-eq0-clause-none
returns-then-rest-eq0-clause-none c =
    rw (← c.self.view_is, ← c.other.view_is)
    (within_by_rest c.self.inside.bits c.other.inside.bits (omega arith) (omega arith) c.if-rest-eq0.true)

pub returns-else-rest-eq0-clause-some : goal.returns-else-rest-eq0-clause-some
returns-else-rest-eq0-clause-some c =
    rw (← c.self.view_is, ← c.other.view_is)
    (first_by_rest c.self.inside.bits c.other.inside.bits (omega arith) (omega arith) (omega arith))
