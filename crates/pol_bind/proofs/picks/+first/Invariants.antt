use Rattle.std.proofs.Common.{◌≡◌, drop}
use Rattle.chart_core.specs.Formulas.{formulas}
use Rattle.pol_bind.specs.Walks.{variable_among}
use Rattle.pol_bind.proofs.picks.+first.Given as goal

abbrev pub invariant-first_among-loop-each : goal.invariant-first_among-loop-each
invariant-first_among-loop-each g l =
    variable_among (g.P.Picks.property l.wanted) (formulas (drop l.each-index l.conditions))
    ≡ variable_among (g.P.Picks.property l.wanted) (formulas l.conditions)
