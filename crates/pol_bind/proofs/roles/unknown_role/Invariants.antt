-- No bind so far has an unknown role.
use Rattle.std.proofs.Common.{◌≡◌, drop}
use Rattle.pol_events.specs.BindRules.{unknown_role}
use Rattle.pol_bind.specs.Roles.{names_in}
use Rattle.pol_bind.proofs.roles.unknown_role.Given as goal

abbrev pub invariant-loop-bind : goal.invariant-loop-bind
invariant-loop-bind l = unknown_role (drop l.bind-index l.binds) (names_in l.roles)
    ≡ unknown_role l.binds (names_in l.roles)
