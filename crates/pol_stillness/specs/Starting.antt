-- The procedure that a step starts is one of its service's.
use Rattle.std.specs.Prelude.{ℕ, ◌≡◌, List, Some, None}
use Rattle.mtp_desc.specs.Plain.{PlainDescription}
use Rattle.mtp_sim.specs.Commands.{asked_procedure}
use Rattle.chart_core.specs.Roles.{PlainChart}
use Rattle.chart_core.specs.declared.entry.LogEntry.TheVariants.{Start}
use Rattle.chart_cursor.specs.Next.{next_after}
use Rattle.chart_cursor.specs.declared.next.CursorNext.TheVariants.{Entry}
use Rattle.pol_events.specs.Bound.{given}
use Rattle.pol_history.specs.Looking.{History, past, recipes}
use Rattle.pol_history.specs.Modules.{description_by}
use Rattle.pol_history.specs.Batches.{Started, start_of, chart_named, outcome_of, log_of}
use Rattle.pol_history.specs.Following.{sights_by}
use Rattle.pol_history.specs.Runs.{IsLegal, IsOrderly}
use Rattle.chart_cursor.specs.Logs.{chart_entries}

-- In every legal history a simulated module has the procedure that a start asks for.
abbrev pub StartsExist : Type 0
StartsExist =
    (history : History) (batch : List ℕ) (begun : Started) (chart : PlainChart) (step tag service : List ℕ)
    (procedure : ℕ) (description : PlainDescription) →
    IsLegal history → IsOrderly history → start_of history batch ≡ Some begun →
    chart_named begun.recipe (recipes history) ≡ Some chart → outcome_of history batch ≡ None →
    next_after chart (chart_entries (log_of history batch)) (sights_by (given begun.binds) (λ tag. past tag history))
    ≡ Entry (Start step tag service procedure) →
    description_by (past tag history) ≡ Some description →
    asked_procedure service procedure description ≡ Some procedure
