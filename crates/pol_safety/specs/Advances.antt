-- An advance is answered as the runs of the chart say.
use Rattle.std.specs.Prelude.{ℕ, ◌≡◌, List, [], ◌∷◌, Bool, true, false, Some, None, is_some}
use Rattle.mtp_codes.specs.Names.{is_among}
use Rattle.chart_core.specs.Entries.{chart_entry}
use Rattle.chart_core.specs.Roles.{PlainChart}
use Rattle.chart_core.specs.declared.entry.LogEntry.{LogEntry}
use Rattle.chart_core.specs.declared.entry.LogEntry.TheVariants.{Hold}
use Rattle.chart_core.specs.declared.next.Outcome.TheVariants.{Completed}
use Rattle.chart_cursor.specs.Logs.{chart_entries, active, has_broken, was_stopped}
use Rattle.chart_cursor.specs.Next.{IsNext, ready_after}
use Rattle.chart_cursor.specs.NextEntry.{first_broken, owed, run_next}
use Rattle.chart_cursor.specs.Sights.{Sights}
use Rattle.chart_cursor.specs.declared.next.CursorNext.{CursorNext}
use Rattle.pol_events.specs.Events.{PlainEntry, advance}
use Rattle.pol_events.specs.Bound.{given}
use Rattle.pol_events.specs.declared.answer.Answer.{Answer}
use Rattle.pol_events.specs.declared.answer.Answer.TheVariants.{Did, Closed}
use Rattle.pol_history.specs.Looking.{History, past, past_of_batch, is_accepted}
use Rattle.pol_history.specs.Batches.{Started, log_of, is_frozen, is_holding_by, asked_by}
use Rattle.pol_history.specs.Following.{sights_by}
use Rattle.pol_history.specs.Answers.{advanced}
use Rattle.pol_history.specs.Runs.{IsLegal, IsOrderly}
use Rattle.pol_safety.specs.Kept.{IsOpen}

-- what the batch sees of the modules that play its roles
abbrev pub seen_by : History → Started → Sights
seen_by history started = sights_by (given started.binds) (λ tag. past tag history)

-- the run of the batch's chart goes on: the batch isn't frozen, it didn't break, nobody had it stopped, the service of
-- no active step is stopped or aborted, and none is owed an Unhold
pub record GoesOn (history : History) (batch : List ℕ) (started : Started) (chart : PlainChart) : Type 0 where
  pub unfrozen : is_frozen history batch ≡ false
  pub unbroken : has_broken (log_of history batch) ≡ false
  pub unstopped : was_stopped (log_of history batch) ≡ false
  pub whole : first_broken (seen_by history started) (active chart (log_of history batch)) ≡ None
  pub unowed : owed (seen_by history started) (log_of history batch) (active chart (log_of history batch)) ≡ []

-- the answer is what comes next in the run of the chart: the entry of the first awaited node that is ready; where none
-- is, the obstacle of the first awaited node; and completed, only after a complete run
pub record AnswersNext (chart : PlainChart) (run : List LogEntry) (seen : Sights) (answer : Answer) : Type 0 where
  pub next : CursorNext
  pub is_next : IsNext chart run (ready_after chart run seen) next
  pub answer_is : answer ≡ advanced (Some (run_next next))

-- the answer goes on in the run of the chart: it is an entry of it, or says that it is complete
abbrev pub continues : Answer → Bool
continues (Did entry) = is_some (chart_entry entry)
continues (Closed Completed) = true
continues _ = false

-- the batch is frozen so that its services are held, and the step wasn't sent Hold since that freeze
pub record IsHeldOnce (history : History) (batch step : List ℕ) : Type 0 where
  pub holding : is_holding_by (past_of_batch batch history) ≡ true
  pub unasked : is_among (asked_by (past_of_batch batch history)) step ≡ false

-- The batch is open, it has a chart, and where the run of the chart goes on the answer is what comes next in it. The
-- answer goes on in that run only then: so never while a step is owed an Unhold. A step is sent Hold at most once a
-- freeze.
pub record IsAdvanced (history : History) (batch : List ℕ) (answer : Answer) : Type 0 where
  pub started : Started
  pub chart : PlainChart
  pub is_open : IsOpen history batch started chart
  pub follows : GoesOn history batch started chart →
      AnswersNext chart (chart_entries (log_of history batch)) (seen_by history started) answer
  pub goes_on : continues answer ≡ true → GoesOn history batch started chart
  pub holds : (step tag service : List ℕ) → answer ≡ Did (Hold step tag service) → IsHeldOnce history batch step

-- In every legal history of orderly events each accepted advance is of an open batch with a chart, and it is answered
-- by what comes next in the run of that chart, where that run goes on.
abbrev pub AdvancesFollowCharts : Type 0
AdvancesFollowCharts =
    (history : History) (entry : PlainEntry) (at : ℕ) (batch : List ℕ) → IsLegal (entry ∷ history) → IsOrderly history →
    entry.event ≡ advance at batch → is_accepted entry.answer ≡ true → IsAdvanced history batch entry.answer
