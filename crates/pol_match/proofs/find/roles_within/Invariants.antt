use Rattle.std.proofs.Common.{◌≡◌, ◌++◌, drop}
use Rattle.pol_bind.specs.Roles.{names_in}
use Rattle.pol_match.specs.Places.{has_all}
use Rattle.pol_match.specs.Fits.{those_with}
use Rattle.pol_match.proofs.find.roles_within.Given as goal

abbrev pub invariant-loop-at : goal.invariant-loop-at
invariant-loop-at l =
    l.names.items ++ those_with (has_all l.set) (drop l.at l.rows) (names_in (drop l.at l.roles))
    ≡ those_with (has_all l.set) l.rows (names_in l.roles)
