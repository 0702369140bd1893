-- A batch as contracts see it.
use Rattle.std.specs.Prelude.{ℕ, ◌≡◌, Bool, true, false, List, Option}
use Rattle.chart_core.specs.declared.chart.Chart.{Chart}
use Rattle.chart_core.specs.declared.next.Outcome.{Outcome}
use Rattle.chart_core.specs.declared.progress.Progress.{Progress}
use Rattle.pol_events.specs.declared.event.Bind.{Bind}
use Rattle.pol_runs.specs.Holds.{PlainHolds}
use Rattle.pol_runs.specs.declared.freeze.Freeze.{Freeze}
use Rattle.pol_runs.specs.declared.course.Course.{Course}
use Rattle.pol_runs.specs.declared.course.Course.TheVariants.{Running, Breaking, Stopping}

-- a batch with its recipe and chart, its binds, of which the first `held` ones are of modules that it holds, how far
-- each node has come, which steps were held, and whether it is frozen, stopped or closed
pub record PlainRun : Type 0 where
  pub batch : List ℕ
  pub recipe : List ℕ
  pub chart : Chart
  pub binds : List Bind
  pub held : ℕ
  pub marks : List Progress
  pub holds : PlainHolds
  pub freeze : Freeze
  pub course : Course
  pub outcome : Option Outcome

-- the batch broke
abbrev pub is_breaking : Course → Bool
is_breaking Running = false
is_breaking (Breaking from) = true
is_breaking (Stopping from) = false

-- the operator had the batch stopped
abbrev pub is_stopping : Course → Bool
is_stopping Running = false
is_stopping (Breaking from) = false
is_stopping (Stopping from) = true

-- the number of the first node whose step may still be active
abbrev pub from_of : Course → ℕ
from_of Running = 0
from_of (Breaking from) = from
from_of (Stopping from) = from

-- the two are one batch with the same recipe, chart and binds
pub record SameBatch (old new : PlainRun) : Type 0 where
  pub batch : new.batch ≡ old.batch
  pub recipe : new.recipe ≡ old.recipe
  pub chart : new.chart ≡ old.chart
  pub binds : new.binds ≡ old.binds
  pub held : new.held ≡ old.held
