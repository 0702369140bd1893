use Rattle.std.proofs.Common.{◌≡◌, drop, map}
use Rattle.mtp_codes.specs.Names.{is_among}
use Rattle.chart_core.specs.Roles.{plain_role}
use Rattle.chart_core.proofs.valid.is_role.Given as goal

abbrev pub invariant-loop-each : goal.invariant-loop-each
invariant-loop-each l =
    is_among (map (λ role. role.role) (map plain_role (drop l.each-index l.roles))) l.name
    ≡ is_among (map (λ role. role.role) (map plain_role l.roles)) l.name
