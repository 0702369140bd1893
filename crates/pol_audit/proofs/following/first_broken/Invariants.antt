use Rattle.std.proofs.Common.{◌≡◌, drop}
use Rattle.chart_cursor.specs.NextEntry.{first_broken}
use Rattle.pol_events.specs.Bound.{given, plain_allocation}
use Rattle.pol_events.specs.Events.{plain_history}
use Rattle.pol_history.specs.Looking.{past}
use Rattle.pol_history.specs.Following.{sights_by}
use Rattle.pol_audit.specs.Starts.{active_seen}
use Rattle.pol_audit.proofs.following.first_broken.Given as goal

abbrev pub invariant-loop-step : goal.invariant-loop-step
invariant-loop-step l =
    first_broken (sights_by (given (plain_allocation l.seen.binds))
    (λ tag. past tag (plain_history l.seen.history.now)))
    (active_seen l.log.whole.now (drop l.step-index l.steps))
    ≡ first_broken (sights_by (given (plain_allocation l.seen.binds))
    (λ tag. past tag (plain_history l.seen.history.now))) (active_seen l.log.whole.now l.steps)
