use Rattle.std.proofs.Common.{◌≡◌, drop, map}
use Rattle.chart_core.specs.Formulas.{formulas}
use Rattle.chart_core.specs.Roles.{plain_role}
use Rattle.chart_core.specs.Valid.{some_reads_unknown}
use Rattle.chart_core.proofs.valid.+unknown.Given as goal

abbrev pub invariant-some_has_unknown-loop-each : goal.invariant-some_has_unknown-loop-each
invariant-some_has_unknown-loop-each l =
    some_reads_unknown (formulas (drop l.each-index l.conditions)) (map (λ role. role.role) (map plain_role l.roles))
    ≡ some_reads_unknown (formulas l.conditions) (map (λ role. role.role) (map plain_role l.roles))
