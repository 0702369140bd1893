-- What the plant's read-only calls answer: each is found by looking back over the history.
use Rattle.std.specs.Prelude.{ℕ, ⊤, Bool, ◌||◌, List, Option, None, Result, Ok, Err, is_none, nat_le, find}
use Rattle.std.specs.Prelude.{option_and_then, option_map, if◌then◌else◌}
use Rattle.std.specs.Option.{option_or}
use Rattle.std.specs.Str.{bytes_eq}
use Rattle.mtp_codes.specs.Faults.{when, done_unless}
use Rattle.mtp_codes.specs.Names.{same_name}
use Rattle.mtp_codes.specs.declared.value.Setting.{Setting}
use Rattle.mtp_codes.specs.declared.value.Value.{Value}
use Rattle.mtp_codes.specs.declared.limits.TheConstants.{LONGEST_HISTORY}
use Rattle.chart_core.specs.Roles.{PlainChart}
use Rattle.chart_core.specs.Trees.{PlainStep, steps}
use Rattle.chart_core.specs.declared.next.Next.{Next}
use Rattle.chart_cursor.specs.Logs.{has_broken, was_stopped}
use Rattle.chart_cursor.specs.declared.sight.Sight.{Sight}
use Rattle.chart_cursor.specs.declared.sight.Sight.TheVariants.{Away}
use Rattle.mtp_modes.specs.declared.view.ServiceView.{ServiceView}
use Rattle.pol_events.specs.declared.answer.Answer.{Answer}
use Rattle.pol_events.specs.declared.answer.Answer.TheVariants.{Refused, Ticket}
use Rattle.pol_events.specs.declared.answer.Rule.{Rule}
use Rattle.pol_events.specs.declared.answer.Rule.TheVariants.{HistoryFull}
use Rattle.pol_history.specs.Batches as batches
use Rattle.pol_history.specs.Batches.{chart_of, is_frozen_by, is_holding_by, log_by, outcome_by, outcome_of, start_of}
use Rattle.pol_history.specs.Following.{next_of, sight_in}
use Rattle.pol_history.specs.Looking.{History, past_of_batch}
use Rattle.pol_history.specs.Modules as modules
use Rattle.pol_core.specs.declared.docking.Docking.{Docking}
use Rattle.pol_core.specs.declared.docking.Docking.TheVariants as docking
use Rattle.pol_core.specs.declared.standing.Standing.{Standing}
use Rattle.pol_core.specs.declared.started.Started.{Started}

-- what comes next for the batch; nothing, where it isn't started or is closed
abbrev pub open_next : History → List ℕ → Option Next
open_next history batch = if is_none (outcome_of history batch) then next_of history batch else None

-- the rule by which an answer refuses
abbrev pub refusal : Answer → Result ⊤ Rule
refusal (Refused rule) = Err rule
refusal _ = Ok tt

-- a full history refuses, or else the rule, if there is one
abbrev pub refused_first : ℕ → Option Rule → Result ⊤ Rule
refused_first count rule = done_unless (option_or (when (nat_le LONGEST_HISTORY count) HistoryFull) rule)

-- the step has this name
abbrev pub is_named : List ℕ → PlainStep → Bool
is_named name step = same_name step.name name

-- the settings of the chart's step of this name
abbrev pub settings_named : List ℕ → PlainChart → Option (List Setting)
settings_named name chart =
    option_map (λ placed. placed.step.settings) (find (λ placed. bytes_eq placed.step.name name) (steps chart.root 0))

-- the settings of a step of the batch; none where the batch isn't started or its chart lacks the step
abbrev pub settings_of : History → List ℕ → List ℕ → Option (List Setting)
settings_of history batch name = option_and_then (settings_named name) (chart_of history batch)

-- whether a tag is docked, as looking back gives it
abbrev pub plain_docking : Docking → modules.Docking
plain_docking docking.Absent = modules.absent
plain_docking (docking.Docked count) = modules.docked count
plain_docking (docking.Away ticket) = modules.away ticket

-- what is seen of a service that has this view, where its module is docked so; Away, where it isn't docked
abbrev pub module_sight : modules.Docking → Option ServiceView → Sight
module_sight modules.absent view = Away
module_sight (modules.away ticket) view = Away
module_sight (modules.docked count) view = sight_in (modules.docked count) view

-- the value of a variable whose last one is this, where its module is docked so; none, where no module has the tag
abbrev pub module_value : modules.Docking → Option Value → Option Value
module_value modules.absent value = None
module_value (modules.away ticket) value = value
module_value (modules.docked count) value = value

-- the answer to the begin of an exchange: the ticket, or the rule that refuses it
abbrev pub ticket_answer : Result ℕ Rule → Answer
ticket_answer (Ok ticket) = Ticket ticket
ticket_answer (Err rule) = Refused rule

-- how a batch stands, by its past: how it was closed, whether its services are held while it is frozen, and whether it
-- broke or was to be stopped
abbrev pub standing_by : History → Standing
standing_by past =
    record {
      outcome = outcome_by past;
      hold = when (is_frozen_by past) (is_holding_by past);
      is_stopping = has_broken (log_by past) || was_stopped (log_by past);
    }

-- how the batch stands; none, where it wasn't started
abbrev pub standing_of : History → List ℕ → Option Standing
standing_of history batch = option_map (λ started. standing_by (past_of_batch batch history)) (start_of history batch)

-- what a batch was started with, as looking back gives it
abbrev pub plain_started : Started → batches.Started
plain_started started =
    record { recipe = started.recipe; binds = record { held = started.held.now; watched = started.watched.now } }
