use Rattle.std.proofs.Common.{◌≡◌, drop, map}
use Rattle.chart_core.specs.Trees.{arms, arm_conditions}
use Rattle.chart_core.specs.Roles.{plain_role}
use Rattle.chart_core.specs.Valid.{some_reads_unknown}
use Rattle.chart_core.proofs.valid.an_arm_has_unknown.Given as goal

abbrev pub invariant-loop-arm : goal.invariant-loop-arm
invariant-loop-arm l =
    some_reads_unknown (arm_conditions (arms (drop l.arm-index l.each)))
    (map (λ role. role.role) (map plain_role l.roles))
    ≡ some_reads_unknown (arm_conditions (arms l.each)) (map (λ role. role.role) (map plain_role l.roles))
