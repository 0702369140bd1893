use Rattle.std.proofs.Common.{sym, ◌∙◌}
use Rattle.pol_events.proofs.Options.{not_some}
use Rattle.pol_lines.proofs.recipes.chart_in.Goals as goal

pub returns-in-Ok-new-clause-valid : goal.returns-in-Ok-new-clause-valid
returns-in-Ok-new-clause-valid c =
    rw c.in-Ok-new.ensures.ok (sym c.chart_fault.ensures
    ∙ not_some c.chart_fault.result (sym c.is_some.ensures ∙ c.if-is_some.false))
