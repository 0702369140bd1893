use Rattle.std.proofs.Common.{◌≡◌, drop}
use Rattle.pol_events.specs.Events.{plain_history}
use Rattle.pol_history.specs.Rules.{busy}
use Rattle.pol_bind.specs.Roles.{names_in}
use Rattle.pol_audit.proofs.start_rules.busy.Given as goal

abbrev pub invariant-loop-role : goal.invariant-loop-role
invariant-loop-role l =
    busy (plain_history l.history) l.binds (names_in (drop l.role-index l.roles))
    ≡ busy (plain_history l.history) l.binds (names_in l.roles)
