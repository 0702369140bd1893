use Rattle.std.proofs.Common.{◌≡◌, drop}
use Rattle.pol_events.specs.Bound.{shares_a_role}
use Rattle.pol_events.proofs.bound.shares_a_role.Given as goal

abbrev pub invariant-loop-bind : goal.invariant-loop-bind
invariant-loop-bind l =
    shares_a_role (record { held = drop l.bind-index l.held; watched = l.watched })
    ≡ shares_a_role (record { held = l.held; watched = l.watched })
