-- A batch that is being stopped, by its first active step.
use Rattle.std.specs.Prelude.{ℕ, ◌+◌, Bool, Option, Some, None, if◌then◌else◌}
use Rattle.chart_core.specs.declared.next.Next.{Next}
use Rattle.chart_core.specs.declared.next.Next.TheVariants.{Closed}
use Rattle.chart_core.specs.declared.next.Outcome.TheVariants.{Broken, Stopped}
use Rattle.chart_cursor.specs.NextEntry.{stop_step}
use Rattle.chart_cursor.specs.Sights.{Sights, tag_of}
use Rattle.chart_cursor.specs.declared.running.RunningStep.{RunningStep}

-- what a batch that is being stopped does next, by its first active step; where there is none, the batch is closed
abbrev pub stop_found : Sights → Bool → Option RunningStep → Next
stop_found seen broken None = Closed (if broken then Broken else Stopped)
stop_found seen broken (Some step) =
    stop_step step.name step.service (tag_of seen step.role) (seen.view step.role step.service)

-- the number behind the node of the step; where there is no step, the number from before
abbrev pub behind : ℕ → Option RunningStep → ℕ
behind from None = from
behind from (Some step) = step.number + 1
