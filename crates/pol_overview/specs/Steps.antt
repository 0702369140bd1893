-- The steps of an open batch as the overview shows them: those that are active, those that a hold doesn't reach, and
-- what the nodes of its chart wait for.
use Rattle.std.specs.Prelude.{ℕ, Bool, false, List, [], filter_map, codes, is_some, Option, None, option_map, unwrap_or}
use Rattle.std.specs.Prelude.{if◌then◌else◌}
use Rattle.serde_json.specs.Data.{Data, string, array, object, member, no_members}
use Rattle.serde_json.specs.View.{items_of}
use Rattle.mtp_codes.specs.declared.command.Command.TheVariants as command
use Rattle.mtp_codes.specs.declared.mode.Forbid.{Forbid}
use Rattle.mtp_codes.specs.declared.mode.Speaker.TheVariants.{Recipe}
use Rattle.mtp_machine.specs.Machine.{command_target}
use Rattle.mtp_modes.specs.Permission.{forbidden_by}
use Rattle.mtp_modes.specs.declared.view.ServiceView.{ServiceView}
use Rattle.chart_cursor.specs.declared.listing.WaitingNode.{WaitingNode}
use Rattle.chart_cursor.specs.declared.sight.Sight.{Sight}
use Rattle.chart_cursor.specs.declared.sight.Sight.TheVariants.{Away, Unreported, Is}
use Rattle.pol_events.specs.declared.answer.Answer.TheVariants.{Waiting}
use Rattle.event_json.specs.Written.{whole}
use Rattle.pol_history.specs.Looking.{History}
use Rattle.pol_history.specs.Modules.{docking_of, view_of}
use Rattle.pol_core.specs.Calls.{module_sight}
use Rattle.pol_core.specs.declared.steps.ActiveStep.{ActiveStep}
use Rattle.pol_record.specs.Rows.{forbid_name}
use Rattle.pol_record.specs.Texts.{answer_data}
use Rattle.pol_overview.specs.Modules.{sight_data}

-- what is seen of the service of a step
abbrev pub step_sight : History → ActiveStep → Sight
step_sight history step = module_sight (docking_of history step.tag) (view_of history step.tag step.service)

-- ---- active steps

-- an active step: the service that it commands, its name, its module, and what is seen of the service
unfoldable pub active_object : List ℕ → List ℕ → List ℕ → Data → Data
active_object service step tag view = object
    (member (codes "service") (string service)
    (member (codes "step") (string step)
    (member (codes "tag") (string tag)
    (member (codes "view") view no_members))))

-- an active step, with what its service reported last
abbrev pub active_data : History → ActiveStep → Data
active_data history step = active_object step.service step.step step.tag (sight_data (step_sight history step))

-- ---- steps that a hold doesn't reach

-- why a recipe may not send Hold to a service that has this view; nothing, where Hold doesn't lead out of its state
abbrev pub unheld_view : ServiceView → Option Forbid
unheld_view view =
    if is_some (command_target view.control.state command.Hold) then forbidden_by view Recipe command.Hold else None

-- why a recipe may not send Hold to a service, by what is seen of the service
abbrev pub unheld_by : Sight → Option Forbid
unheld_by (Is view) = unheld_view view
unheld_by Unreported = None
unheld_by Away = None

-- a step that a hold doesn't reach: why not, its name and its module
unfoldable pub unheld_object : List ℕ → List ℕ → List ℕ → Data
unheld_object by step tag = object
    (member (codes "by") (string by)
    (member (codes "step") (string step)
    (member (codes "tag") (string tag) no_members)))

-- a step, where a hold doesn't reach it
abbrev pub unheld_step : History → ActiveStep → Option Data
unheld_step history step =
    option_map (λ by. unheld_object (forbid_name by) step.step step.tag) (unheld_by (step_sight history step))

-- the steps among these that a hold doesn't reach
abbrev pub unheld_steps : History → List ActiveStep → Data
unheld_steps history steps = array (items_of (filter_map (unheld_step history) steps))

-- these steps, where their batch is frozen with its services held; else none
abbrev pub held_steps : Option Bool → List ActiveStep → List ActiveStep
held_steps hold steps = if unwrap_or hold false then steps else []

-- ---- what nodes wait for

-- an awaited node that isn't ready: its number, and what stands in its way
unfoldable pub waiting_object : ℕ → Data → Data
waiting_object node obstacle =
    object (member (codes "node") (whole node) (member (codes "obstacle") obstacle no_members))

-- an awaited node that isn't ready, with the obstacle as an advance is answered with it
abbrev pub waiting_data : WaitingNode → Data
waiting_data node = waiting_object node.number (answer_data (Waiting node.why))
