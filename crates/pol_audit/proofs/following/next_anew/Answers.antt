use Rattle.std.proofs.Common.{◌≡◌, ◌∙◌, Some, ap, subst, sym}
use Rattle.std.specs.Option.{option_map}
use Rattle.chart_core.specs.Charts.{plain_chart}
use Rattle.chart_core.specs.Standing.{AreAfter}
use Rattle.chart_cursor.specs.Logs.{chart_entries}
use Rattle.pol_events.specs.Events.{plain_history}
use Rattle.pol_history.specs.Batches.{chart_named}
use Rattle.pol_history.specs.Looking.{past, past_of_batch, recipes}
use Rattle.pol_record.specs.Gathered.{plain_start}
use Rattle.pol_audit.proofs.Steps.{next_charted}
use Rattle.pol_audit.proofs.following.next_anew.Goals as goal

pub next_along-requires : goal.next_along-requires
next_along-requires c =
    subst (AreAfter (plain_chart c.in_ok-cursor.cursor.chart) c.in_ok-cursor.cursor.marks)
    (c.run.ensures ∙ ap chart_entries c.log.ensures) c.in_ok-cursor.ensures.along

pub returns : goal.returns
returns c =
    let history = plain_history c.args.history.now in
    let named : chart_named c.args.start.now.recipe (recipes history) ≡ Some (plain_chart c.in_ok-cursor.cursor.chart) =
    ap (chart_named c.args.start.now.recipe) (sym c.recipes.ensures)
    ∙ sym c.chart.ensures.chart
    ∙ ap (option_map (λ chart. plain_chart chart.now.value)) c.in-Some.is
    ∙ ap (λ chart. Some (plain_chart chart)) (sym c.in_ok-cursor.ensures.chart) in
    ap Some c.in_ok-next_along.ensures
    ∙ sym (next_charted (recipes history) (past_of_batch c.args.batch history) (λ tag. past tag history)
    (plain_start c.args.start.now) (plain_chart c.in_ok-cursor.cursor.chart) named)
