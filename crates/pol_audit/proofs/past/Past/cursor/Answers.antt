use Rattle.chart_cursor.specs.Logs.{chart_entries}
use Rattle.pol_events.specs.Events.{plain_history}
use Rattle.pol_history.specs.Batches.{log_by}
use Rattle.pol_history.specs.Looking.{past_of_batch, recipes}
use Rattle.pol_audit.proofs.Placing.{placed_now}
use Rattle.pol_audit.proofs.past.Past.cursor.Goals as goal

pub returns : goal.returns
returns c =
    c.of.ensures (recipes (plain_history c.args.self.now))
    (λ batch. chart_entries (log_by (past_of_batch batch (plain_history c.args.self.now))))
    (placed_now _ c.self.view_is c.self.invariant).cursors
