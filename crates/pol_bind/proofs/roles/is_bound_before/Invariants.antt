-- No role so far has the tag.
use Rattle.std.proofs.Common.{◌≡◌, drop}
use Rattle.pol_events.specs.BindRules.{is_bound_before}
use Rattle.pol_events.specs.Bound.{given, plain_allocation}
use Rattle.pol_bind.specs.Roles.{names_in}
use Rattle.pol_bind.proofs.roles.is_bound_before.Given as goal

abbrev pub invariant-loop-role : goal.invariant-loop-role
invariant-loop-role l =
    is_bound_before (given (plain_allocation l.binds)) (names_in (drop l.role-index l.earlier)) l.tag
    ≡ is_bound_before (given (plain_allocation l.binds)) (names_in l.earlier) l.tag
