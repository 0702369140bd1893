use Rattle.std.proofs.Common.{◌∙◌, Some, ap, subst, sym}
use Rattle.std.specs.Option.{IfSome}
use Rattle.chart_core.specs.Charts.{plain_chart}
use Rattle.chart_cursor.specs.Logs.{chart_entries}
use Rattle.pol_events.specs.Events.{plain_history}
use Rattle.pol_history.specs.Batches.{log_by}
use Rattle.pol_history.specs.Looking.{past, past_of_batch, recipes}
use Rattle.pol_record.specs.Gathered.{plain_start}
use Rattle.pol_audit.specs.Followed.{GoesAlong}
use Rattle.pol_audit.proofs.Steps.{next_charted}
use Rattle.pol_audit.proofs.following.next_of_start.Goals as goal

pub next_along-requires : goal.next_along-requires
next_along-requires c =
    let history = plain_history c.args.history.now in
    (subst (λ found. IfSome found (λ cursor. GoesAlong (recipes history) c.args.start.now.recipe
    (chart_entries (log_by (past_of_batch c.args.batch history))) cursor.now)) c.in-Some.is c.cursor.ensures).1

pub returns : goal.returns
returns c =
    let history = plain_history c.args.history.now in
    let along = subst (λ found. IfSome found (λ cursor. GoesAlong (recipes history) c.args.start.now.recipe
    (chart_entries (log_by (past_of_batch c.args.batch history))) cursor.now)) c.in-Some.is c.cursor.ensures in
    ap Some c.in_ok-next_along.ensures
    ∙ sym (next_charted (recipes history) (past_of_batch c.args.batch history) (λ tag. past tag history)
    (plain_start c.args.start.now) (plain_chart c.in-Some.cursor.now.chart) along.0)
