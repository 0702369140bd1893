use Rattle.std.proofs.Common.{◌≡◌, drop}
use Rattle.chart_core.specs.Trees.{trees}
use Rattle.chart_core.specs.Valid.{some_uses}
use Rattle.chart_core.proofs.steps.is_used_among.Given as goal

abbrev pub invariant-loop-kid : goal.invariant-loop-kid
invariant-loop-kid l =
    some_uses (trees (drop l.kid-index l.kids)) l.role l.service ≡ some_uses (trees l.kids) l.role l.service
