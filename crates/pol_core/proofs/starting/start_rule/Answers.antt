-- What the tables say against a start is what its rules say.
use Rattle.std.proofs.Common.{◌∙◌, sym, ap}
use Rattle.chart_core.specs.Charts.{plain_chart}
use Rattle.chart_core.specs.declared.chart.Chart.{Chart}
use Rattle.pol_events.specs.Bound.{plain_allocation}
use Rattle.pol_core.specs.Judging.{chart_rule}
use Rattle.pol_core.proofs.Begun.{charted_is, start_rules_are}
use Rattle.pol_core.proofs.starting.start_rule.Goals as goal

pub returns-in-Some : goal.returns-in-Some
returns-in-Some c =
    λ history at mirrors.
    sym (start_rules_are history at c.args.batch c.args.name (plain_allocation c.args.binds)
    (plain_chart c.in-Some.chart.now.value) c.args.modules.now c.args.runs.now.entries
    c.args.recipes.now.entries mirrors
    (charted_is history c.args.recipes.now.entries c.args.name c.in-Some.chart.now mirrors.recipes
    (sym c.in-Some.ensures.value))
    ∙ ap (λ (chart : Chart). chart_rule c.args.modules.now c.args.runs.now.entries c.args.batch
    (plain_allocation c.args.binds) (plain_chart chart)) (sym c.deref.ensures)
    ∙ sym c.chart_rule.ensures)
