use Rattle.std.proofs.Common.{◌∙◌, ap, subst, sym}
use Rattle.std.proofs.lemmas.Result.{IfOk-weaker}
use Rattle.chart_core.specs.Charts.{plain_chart}
use Rattle.chart_core.specs.Standing.{AreAfter}
use Rattle.chart_cursor.specs.Logs.{chart_entries}
use Rattle.chart_cursor.specs.NextEntry.{next_by}
use Rattle.pol_events.specs.Bound.{given, plain_allocation}
use Rattle.pol_events.specs.Events.{plain_history}
use Rattle.pol_history.specs.Looking.{past, past_of_batch}
use Rattle.pol_history.specs.Batches.{freezing_by}
use Rattle.pol_history.specs.Following.{sights_by}
use Rattle.pol_audit.proofs.following.next_along.Goals as goal

pub returns : goal.returns
returns c =
    let seen = sights_by (given (plain_allocation c.args.binds))
    (λ tag. past tag (plain_history c.args.history.now)) in
    IfOk-weaker c.next_by.result _ _
    (λ next is.
    is
    ∙ ap (λ log. next_by (plain_chart c.args.cursor.now.chart)
    (freezing_by (past_of_batch c.args.batch (plain_history c.args.history.now))) log seen) c.log-log.ensures)
    c.next_by.ensures

pub next_by-requires : goal.next_by-requires
next_by-requires c =
    subst (λ log. AreAfter (plain_chart c.args.cursor.now.chart) c.args.cursor.now.marks (chart_entries log))
    (sym c.log-log.ensures) c.requires
