-- Each role so far is bound.
use Rattle.std.proofs.Common.{◌≡◌, drop}
use Rattle.pol_events.specs.BindRules.{role_unbound}
use Rattle.pol_events.specs.Bound.{given, plain_allocation}
use Rattle.pol_bind.specs.Roles.{names_in}
use Rattle.pol_bind.proofs.roles.role_unbound.Given as goal

abbrev pub invariant-loop-role : goal.invariant-loop-role
invariant-loop-role l = role_unbound (given (plain_allocation l.binds)) (names_in (drop l.role-index l.roles))
    ≡ role_unbound (given (plain_allocation l.binds)) (names_in l.roles)
