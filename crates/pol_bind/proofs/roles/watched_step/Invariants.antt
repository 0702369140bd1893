-- No role so far is watched and has a step.
use Rattle.std.proofs.Common.{◌≡◌, drop, map}
use Rattle.chart_core.specs.Trees.{plain_node, steps}
use Rattle.pol_events.specs.BindRules.{watched_step}
use Rattle.pol_bind.specs.Roles.{names_in}
use Rattle.pol_bind.proofs.roles.watched_step.Given as goal

abbrev pub invariant-loop-role : goal.invariant-loop-role
invariant-loop-role l = watched_step l.watched (map (λ placed. placed.step) (steps (plain_node l.root) 0))
    (names_in (drop l.role-index l.roles))
    ≡ watched_step l.watched (map (λ placed. placed.step) (steps (plain_node l.root) 0)) (names_in l.roles)
