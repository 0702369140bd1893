-- No role so far has the tag of an earlier one.
use Rattle.std.proofs.Common.{◌≡◌, [], drop, take}
use Rattle.pol_events.specs.Bound.{given, plain_allocation}
use Rattle.pol_bind.specs.Roles.{names_in, twice_from}
use Rattle.pol_bind.proofs.roles.first_twice.Given as goal

abbrev pub invariant-loop-i : goal.invariant-loop-i
invariant-loop-i l =
    twice_from (given (plain_allocation l.binds)) (names_in (take l.i l.roles)) (names_in (drop l.i l.roles))
    ≡ twice_from (given (plain_allocation l.binds)) [] (names_in l.roles)
