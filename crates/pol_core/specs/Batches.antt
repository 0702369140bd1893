-- What the runs keep of a history: for each batch what looking back gives.
use Rattle.std.specs.Prelude.{ℕ, ◌≡◌, Bool, false, not, ◌||◌, List, [], ◌∷◌, ◌++◌, Option, Some, None, is_some}
use Rattle.std.specs.Prelude.{length, if◌then◌else◌}
use Rattle.std.specs.Map.{lookup}
use Rattle.std.specs.Option.{option_or, option_map}
use Rattle.std.specs.Str.{bytes_eq}
use Rattle.mtp_codes.specs.Faults.{when}
use Rattle.chart_core.specs.Charts.{plain_chart}
use Rattle.chart_core.specs.declared.entry.LogEntry.{LogEntry}
use Rattle.chart_core.specs.declared.entry.LogEntry.TheVariants.{StopAsked}
use Rattle.chart_core.specs.declared.next.Next.{Next}
use Rattle.chart_core.specs.declared.next.Outcome.{Outcome}
use Rattle.chart_cursor.specs.Logs.{has_broken, was_stopped}
use Rattle.chart_cursor.specs.NextEntry.{next_by}
use Rattle.chart_cursor.specs.Sights.{Sights}
use Rattle.pol_events.specs.Bound.{PlainAllocation, given}
use Rattle.pol_events.specs.Events.{PlainEvent}
use Rattle.pol_events.specs.declared.answer.Answer.{Answer}
use Rattle.pol_events.specs.declared.answer.Rule.{Rule}
use Rattle.pol_events.specs.declared.answer.Rule.TheVariants.{NoBatch, BatchClosed}
use Rattle.pol_history.specs.Answers.{answer_of, is_full}
use Rattle.pol_history.specs.Batches.{start_by, chart_named, outcome_by, is_frozen_by, is_holding_by, asked_by, log_by}
use Rattle.pol_history.specs.Looking.{History, past_of_batch, recipes}
use Rattle.pol_history.specs.Runs.{entry_of}
use Rattle.pol_slots.specs.declared.slot.Slot.{Slot}
use Rattle.pol_table.specs.Rows.{Row, Rows, freed_from}
use Rattle.pol_runs.specs.Freezes.{is_frozen, is_holding, frozen_as, freezing}
use Rattle.pol_runs.specs.Logs.{Asks, Follows, asked_after, closing_in, log_after}
use Rattle.pol_runs.specs.declared.freeze.Freeze.TheVariants.{Thawed}
use Rattle.pol_runs.specs.Runs.{PlainRun, SameBatch}
use Rattle.pol_core.specs.Seats.{SeatsMirror, IsCounted, AnswersModule}

-- the run keeps what its batch's past gives
pub record RunKeeps (batch : List ℕ) (run : PlainRun) (past recipes : History) : Type 0 where
  pub batch_is : run.batch ≡ batch
  pub recipe : List ℕ
  pub binds : PlainAllocation
  pub recipe_is : run.recipe ≡ recipe
  pub binds_are : run.binds ≡ given binds
  pub held_are : run.held ≡ length binds.held
  pub started : start_by past ≡ Some (record { recipe = recipe; binds = binds })
  pub charted : chart_named recipe recipes ≡ Some (plain_chart run.chart)
  pub follows : Follows run (log_by past)
  pub asks : Asks run (asked_by past)
  pub frozen_is : is_frozen run.freeze ≡ is_frozen_by past
  pub holding_is : is_holding run.freeze ≡ is_holding_by past
  pub outcome_is : run.outcome ≡ outcome_by past

-- a batch without a run has no past
abbrev pub IsRun : List ℕ → Option PlainRun → History → History → Type 0
IsRun batch None past recipes = past ≡ []
IsRun batch (Some run) past recipes = RunKeeps batch run past recipes

-- the runs keep of each batch what looking back gives
abbrev pub RunsMirror : List (List ℕ × PlainRun) → History → Type 0
RunsMirror runs history =
    (batch : List ℕ) → IsRun batch (lookup (bytes_eq batch) runs) (past_of_batch batch history) (recipes history)

-- a row, freed from the batch where that is closed
abbrev pub freed_if : {T : Type 0} → Option Outcome → List ℕ → Option (Row T) → Option (Row T)
freed_if None batch row = row
freed_if (Some outcome) batch row = option_map (freed_from batch) row

-- the batch has this run afterwards, and no other run has changed
abbrev pub ChangesRun : List ℕ → PlainRun → List (List ℕ × PlainRun) → List (List ℕ × PlainRun) → Type 0
ChangesRun batch after old new =
    (other : List ℕ) → lookup (bytes_eq other) new
    ≡ (if bytes_eq batch other then Some after else lookup (bytes_eq other) old)

-- the run has done what comes next
pub record Settles (next : Next) (old new : PlainRun) : Type 0 where
  pub log : (log : List LogEntry) → Follows old log → Follows new (log_after next log)
  pub asked : (asked : List (List ℕ)) → Asks old asked → Asks new (asked_after next asked)
  pub same_batch : SameBatch old new
  pub freeze_is : new.freeze ≡ old.freeze
  pub outcome_is : new.outcome ≡ option_or (closing_in next) old.outcome

-- the run of this batch has done what comes next, and no other run has changed
pub record SettlesOne (batch : List ℕ) (next : Next) (run : PlainRun)
    (old new : List (List ℕ × PlainRun)) : Type 0 where
  pub after : PlainRun
  pub settles : Settles next run after
  pub runs : ChangesRun batch after old new

-- the run was frozen, with its services held or not
pub record Freezes (hold : Bool) (old new : PlainRun) : Type 0 where
  pub log : (log : List LogEntry) → Follows old log → Follows new log
  pub asked : Asks new []
  pub same_batch : SameBatch old new
  pub freeze_is : new.freeze ≡ frozen_as hold
  pub outcome_is : new.outcome ≡ old.outcome

-- the run of this batch was frozen, and no other run has changed
pub record FreezesOne (batch : List ℕ) (hold : Bool) (run : PlainRun)
    (old new : List (List ℕ × PlainRun)) : Type 0 where
  pub after : PlainRun
  pub freezes : Freezes hold run after
  pub runs : ChangesRun batch after old new

-- the run was asked to stop, which is new unless it broke or was asked before, and isn't frozen any more
pub record Stops (is_new : Bool) (old new : PlainRun) : Type 0 where
  pub was : (log : List LogEntry) → Follows old log → is_new ≡ not (has_broken log || was_stopped log)
  pub log : (log : List LogEntry) → Follows old log → Follows new (if is_new then log ++ StopAsked ∷ [] else log)
  pub asked : (asked : List (List ℕ)) → Asks old asked → Asks new asked
  pub same_batch : SameBatch old new
  pub freeze_is : new.freeze ≡ Thawed
  pub outcome_is : new.outcome ≡ old.outcome

-- the run of this batch was asked to stop, and no other run has changed
pub record StopsOne (batch : List ℕ) (is_new : Bool) (run : PlainRun)
    (old new : List (List ℕ × PlainRun)) : Type 0 where
  pub after : PlainRun
  pub stops : Stops is_new run after
  pub runs : ChangesRun batch after old new

-- this is what comes next for the run, whatever log it stands for
abbrev pub ComesNext : Sights → Next → PlainRun → Type 0
ComesNext seen next run = (log : List LogEntry) (asked : List (List ℕ)) → Follows run log → Asks run asked
    → next ≡ next_by (plain_chart run.chart) (freezing run.freeze asked) log seen

-- the rule that an event of a batch meets first: it has no run, or its run is closed
abbrev pub not_open : Option PlainRun → Option Rule
not_open None = Some NoBatch
not_open (Some run) = when (is_some run.outcome) BatchClosed

-- this is the run of the batch, and it is open
pub record IsOpenRun (batch : List ℕ) (run : PlainRun) (runs : List (List ℕ × PlainRun)) : Type 0 where
  pub found : lookup (bytes_eq batch) runs ≡ Some run
  pub is_open : run.outcome ≡ None

-- the answer to an event of a batch is the defined one, and the tables keep the history with it
pub record AnswersBatch (history : History) (event : PlainEvent) (answer : Answer) (modules : Rows Slot)
    (runs : List (List ℕ × PlainRun)) : Type 0 where
  pub answer_is : answer ≡ answer_of history event
  pub seats : SeatsMirror modules (entry_of history event ∷ history)
  pub counted : IsCounted modules (entry_of history event ∷ history)
  pub batches : RunsMirror runs (entry_of history event ∷ history)

-- an event of a batch is answered as defined after each history with room that the tables keep, whatever its stamp
abbrev pub BatchAnswers : (ℕ → PlainEvent) → Rows Slot → List (List ℕ × PlainRun) → Answer → Rows Slot →
    List (List ℕ × PlainRun) → Type 0
BatchAnswers event old_modules old answer new_modules new =
    (history : History) (at : ℕ) → SeatsMirror old_modules history → IsCounted old_modules history
    → RunsMirror old history → is_full history ≡ false
    → AnswersBatch history (event at) answer new_modules new

-- an event of a module that looks at the runs is answered as defined after each history with room that the tables keep
abbrev pub ModuleAnswersBeside : List (List ℕ × PlainRun) → (ℕ → PlainEvent) → Rows Slot → Answer → Rows Slot → Type 0
ModuleAnswersBeside runs event old answer new =
    (history : History) (at : ℕ) → SeatsMirror old history → IsCounted old history → RunsMirror runs history
    → is_full history ≡ false → AnswersModule history (event at) answer new
