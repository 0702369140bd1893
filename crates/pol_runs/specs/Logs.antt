-- Which logs a run stands for, and what becomes of a log and of the batch by what comes next.
use Rattle.std.specs.Prelude.{ℕ, ◌≡◌, ◌&&◌, nat_le, List, [], ◌∷◌, ◌++◌, Option, Some, None}
use Rattle.std.specs.List.{Contains}
use Rattle.chart_core.specs.Active.{is_active}
use Rattle.chart_core.specs.Charts.{plain_chart}
use Rattle.chart_core.specs.Standing.{StandsFor}
use Rattle.chart_core.specs.Trees.{Placed, steps}
use Rattle.chart_core.specs.Valid.{IsValid}
use Rattle.chart_core.specs.declared.entry.LogEntry.{LogEntry}
use Rattle.chart_core.specs.declared.entry.LogEntry.TheVariants.{Hold}
use Rattle.chart_core.specs.declared.next.Next.{Next}
use Rattle.chart_core.specs.declared.next.Next.TheVariants.{Did, Waiting, Closed}
use Rattle.chart_core.specs.declared.next.Outcome.{Outcome}
use Rattle.chart_cursor.specs.Logs.{chart_entries, has_broken, was_stopped}
use Rattle.pol_events.specs.Bound.{ArePaired}
use Rattle.pol_runs.specs.Holds.{HaveRoom, AreHeld, AreAsked}
use Rattle.pol_runs.specs.Runs.{PlainRun, from_of, is_breaking, is_stopping}

-- The run has come as far as the log says: its marks stand for the entries of the chart's run, its course tells
-- whether the batch broke or was to be stopped, and the active steps are those that the entries of the chart's run
-- leave active, from a number on.
pub record Proceeds (run : PlainRun) (log : List LogEntry) : Type 0 where
  pub marks : StandsFor (plain_chart run.chart) run.marks (chart_entries log)
  pub broke : has_broken log ≡ is_breaking run.course
  pub stopped : was_stopped log ≡ is_stopping run.course
  pub active : (placed : Placed) → Contains (steps (plain_chart run.chart).root 0) placed
      → is_active log placed ≡ nat_le (from_of run.course) placed.number && is_active (chart_entries log) placed

-- The run stands for the log: it has come as far, and its flags tell which steps were held.
pub record Follows (run : PlainRun) (log : List LogEntry) : Type 0 where
  pub proceeds : Proceeds run log
  pub held : AreHeld (plain_chart run.chart) run.holds log

-- the steps that were asked to hold since the last freeze are these
abbrev pub Asks : PlainRun → List (List ℕ) → Type 0
Asks run asked = AreAsked (plain_chart run.chart) run.holds asked

-- the chart is valid, each bind is found by its role and by its tag, and there is a log that the run stands for,
-- with the steps that were asked to hold since the last freeze
pub record IsSoundRun (run : PlainRun) : Type 0 where
  pub valid : IsValid (plain_chart run.chart)
  pub paired : ArePaired run.binds
  pub room : HaveRoom (plain_chart run.chart) run.holds
  pub log : List LogEntry
  pub follows : Follows run log
  pub asked : List (List ℕ)
  pub asks : Asks run asked

-- the log after what comes next is done: an entry is put at its end
abbrev pub log_after : Next → List LogEntry → List LogEntry
log_after (Did entry) log = log ++ entry ∷ []
log_after (Waiting obstacle) log = log
log_after (Closed outcome) log = log

-- the steps that were asked to hold since the last freeze, after what comes next is done: the step of a Hold is one
abbrev pub asked_after : Next → List (List ℕ) → List (List ℕ)
asked_after (Did (Hold step tag service)) asked = step ∷ asked
asked_after _ asked = asked

-- the outcome with which what comes next closes the batch
abbrev pub closing_in : Next → Option Outcome
closing_in (Did entry) = None
closing_in (Waiting obstacle) = None
closing_in (Closed outcome) = Some outcome
