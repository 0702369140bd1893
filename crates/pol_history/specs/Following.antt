-- What a batch sees of its modules, and its next entry.
use Rattle.std.specs.Prelude.{ℕ, List, Option, Some, None, option_and_then, option_map}
use Rattle.mtp_codes.specs.declared.value.Value.{Value}
use Rattle.mtp_modes.specs.declared.view.ServiceView.{ServiceView}
use Rattle.chart_core.specs.declared.next.Next.{Next}
use Rattle.chart_cursor.specs.declared.sight.Sight.{Sight}
use Rattle.chart_cursor.specs.declared.sight.Sight.TheVariants as sight
use Rattle.chart_cursor.specs.declared.sight.ReadingSight.{ReadingSight}
use Rattle.chart_cursor.specs.declared.sight.ReadingSight.TheVariants as reading_sight
use Rattle.chart_cursor.specs.NextEntry.{next_by}
use Rattle.chart_cursor.specs.Sights.{Sights, sight_of_view, reading_of_value}
use Rattle.pol_events.specs.declared.event.Bind.{Bind}
use Rattle.pol_events.specs.Bound.{bound_tag, given}
use Rattle.pol_history.specs.Looking.{History, past, past_of_batch, recipes}
use Rattle.pol_history.specs.Modules.{Docking, absent, docked, away, docking_by, view_by, value_by}
use Rattle.pol_history.specs.Batches.{Started, start_of, chart_by, freezing_by, log_by}

-- ---- what a batch sees of its modules

-- what is seen of a service with this view, by whether its module is docked
abbrev pub sight_in : Docking → Option ServiceView → Sight
sight_in (away ticket) view = sight.Away
sight_in absent view = sight.Unreported
sight_in (docked count) view = sight_of_view view

-- what is seen of a variable with this value, by whether its module is docked
abbrev pub reading_in : Docking → Option Value → ReadingSight
reading_in (away ticket) value = reading_sight.Away
reading_in absent value = reading_sight.Unreported
reading_in (docked count) value = reading_of_value value

-- what is seen of the service of a module, by the pasts of the modules; a role without a module is never reported
abbrev pub service_sight : (List ℕ → History) → List ℕ → Option (List ℕ) → Sight
service_sight pasts service None = sight.Unreported
service_sight pasts service (Some tag) = sight_in (docking_by (pasts tag)) (view_by service (pasts tag))

-- what is seen of the variable of a module, by the pasts of the modules; a role without a module is never reported
abbrev pub variable_sight : (List ℕ → History) → List ℕ → Option (List ℕ) → ReadingSight
variable_sight pasts name None = reading_sight.Unreported
variable_sight pasts name (Some tag) = reading_in (docking_by (pasts tag)) (value_by name (pasts tag))

-- what a batch with these binds sees of the modules that play its roles
abbrev pub sights_by : List Bind → (List ℕ → History) → Sights
sights_by binds pasts =
    record {
      tag = bound_tag binds;
      view = λ role service. service_sight pasts service (bound_tag binds role);
      reading = λ role name. variable_sight pasts name (bound_tag binds role);
    }

-- ---- the next entry of a batch

-- the next entry of a batch with this start, if its recipe is there, by its past and the pasts of the modules
abbrev pub next_of_started : History → History → (List ℕ → History) → Started → Option Next
next_of_started recipes past pasts started =
    option_map (λ chart. next_by chart (freezing_by past) (log_by past) (sights_by (given started.binds) pasts))
    (chart_by recipes (Some started))

-- the next entry of the batch, if it was started
abbrev pub next_of : History → List ℕ → Option Next
next_of history batch =
    option_and_then (next_of_started (recipes history) (past_of_batch batch history) (λ tag. past tag history))
    (start_of history batch)
