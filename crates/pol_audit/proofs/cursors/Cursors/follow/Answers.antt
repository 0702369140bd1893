use Rattle.std.proofs.Common.{◌≡◌, ◌∙◌, Some, ap, subst, sym}
use Rattle.std.proofs.lemmas.Result.{on_ok_weaker}
use Rattle.std.specs.Option.{option_map}
use Rattle.chart_core.specs.Charts.{plain_chart}
use Rattle.chart_core.specs.Standing.{AreAfter}
use Rattle.pol_history.specs.Batches.{chart_named}
use Rattle.pol_audit.specs.Listed.{listed}
use Rattle.pol_audit.proofs.cursors.Cursors.follow.Goals as goal

pub returns : goal.returns
returns c =
    let recipes = listed c.args.recipes.now.entries.items in
    let cursor = c.in_ok-cursor.cursor in
    let named : chart_named c.args.recipe recipes ≡ Some (plain_chart cursor.chart) =
    sym c.chart.ensures.chart
    ∙ ap (option_map (λ chart. plain_chart chart.now.value)) c.in-Some.is
    ∙ ap (λ chart. Some (plain_chart chart)) (sym c.in_ok-cursor.ensures.chart) in
    on_ok_weaker c.put.result
    (λ puts runs same followed. puts recipes runs followed
    (named, subst (AreAfter (plain_chart cursor.chart) cursor.marks) (sym same) c.in_ok-cursor.ensures.along))
    c.put.ensures
