use Rattle.std.proofs.Common.{◌≡◌, drop}
use Rattle.chart_cursor.specs.NextEntry.{first_hold, unasked}
use Rattle.pol_events.specs.Events.{plain_history}
use Rattle.pol_history.specs.Batches.{asked_by}
use Rattle.pol_history.specs.Looking.{past_of_batch}
use Rattle.pol_audit.specs.HeldSteps.{plain_sights}
use Rattle.pol_audit.specs.Starts.{active_seen}
use Rattle.pol_audit.proofs.held_steps.first_hold.Given as goal

abbrev pub invariant-loop-step : goal.invariant-loop-step
invariant-loop-step l =
    let asked = asked_by (past_of_batch l.batch (plain_history l.seen.history.now)) in
    first_hold (plain_sights l.seen)
    (unasked asked (active_seen l.log.whole.now (drop l.step-index l.steps)))
    ≡ first_hold (plain_sights l.seen) (unasked asked (active_seen l.log.whole.now l.steps))
