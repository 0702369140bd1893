-- What the tables say against a start.
use Rattle.std.specs.Prelude.{ℕ, not, nat_le, length, is_some, List, [], map, Option, Some, None, option_and_then}
use Rattle.std.specs.Prelude.{option_map, if◌then◌else◌}
use Rattle.std.specs.Map.{lookup}
use Rattle.std.specs.Option.{option_or}
use Rattle.std.specs.Str.{bytes_eq}
use Rattle.mtp_codes.specs.Faults.{when, first_of}
use Rattle.mtp_codes.specs.Names.{same_name}
use Rattle.mtp_codes.specs.declared.limits.TheConstants.{MOST_BATCHES}
use Rattle.mtp_machine.specs.States.{is_idle}
use Rattle.mtp_procs.specs.Covers.{cover_fault}
use Rattle.chart_core.specs.Finding.{first_passing}
use Rattle.chart_core.specs.Roles.{PlainChart, role_names}
use Rattle.chart_core.specs.Trees.{PlainStep, Tree}
use Rattle.chart_cursor.specs.declared.sight.Sight.{Sight}
use Rattle.chart_cursor.specs.declared.sight.Sight.TheVariants as sight
use Rattle.pol_events.specs.Bound.{PlainAllocation, bound_tag, given}
use Rattle.pol_events.specs.Refusals.{cover_rule, in_exchange}
use Rattle.pol_events.specs.declared.answer.Rule.{Rule}
use Rattle.pol_events.specs.declared.answer.Rule.TheVariants.{NoModule, NotReported, NotIdle, BatchKnown, BatchesFull}
use Rattle.pol_events.specs.declared.event.Bind.{Bind}
use Rattle.pol_history.specs.Rules.{busy_module, one_module_twice, role_unbound, role_unknown, steps_in, watched_step}
use Rattle.pol_slots.specs.Sights.{slot_sight}
use Rattle.pol_slots.specs.Slots.{slot_ticket, slot_description}
use Rattle.pol_slots.specs.declared.slot.Slot.{Slot}
use Rattle.pol_table.specs.Rows.{Rows, part_of, holder_of}
use Rattle.pol_runs.specs.Runs.{PlainRun}

-- what is seen of a service of a docked module: it wasn't reported, or isn't idle
abbrev pub sight_unready : List ℕ → List ℕ → Sight → Option Rule
sight_unready tag service sight.Away = None
sight_unready tag service sight.Unreported = Some (NotReported tag service)
sight_unready tag service (sight.Is view) =
    when (not (is_idle view.control.state)) (NotIdle tag service view.control.state)

-- the service of a step of the role wasn't reported, or isn't idle
abbrev pub step_unready : Slot → List ℕ → List ℕ → PlainStep → Option Rule
step_unready slot tag role step =
    if same_name step.role role then sight_unready tag step.service (slot_sight slot step.service) else None

-- the rule that the first step of the role meets whose service wasn't reported or isn't idle
abbrev pub first_unready : Slot → List ℕ → List ℕ → Tree → Option Rule
first_unready slot tag role root =
    option_and_then (step_unready slot tag role)
    (first_passing (λ step. is_some (step_unready slot tag role step)) root)

-- what is wrong with a slot for a role
abbrev pub slot_rule : PlainChart → List ℕ → List ℕ → Slot → Option Rule
slot_rule chart role tag slot =
    option_or (in_exchange tag (slot_ticket slot))
    (option_or (option_map (cover_rule role) (cover_fault chart role (slot_description slot)))
    (first_unready slot tag role chart.root))

-- what is wrong with the module of a tag for a role, or that there is none
abbrev pub part_rule : PlainChart → List ℕ → List ℕ → Option Slot → Option Rule
part_rule chart role tag None = Some (NoModule tag)
part_rule chart role tag (Some slot) = slot_rule chart role tag slot

-- what is wrong with the module of a role, if it has one
abbrev pub role_rule : Rows Slot → PlainChart → List ℕ → Option (List ℕ) → Option Rule
role_rule rows chart role tag = option_and_then (λ tag. part_rule chart role tag (part_of tag rows)) tag

-- the first thing that is wrong with a module, over the roles
abbrev pub table_unfit : Rows Slot → PlainChart → List Bind → List (List ℕ) → Option Rule
table_unfit rows chart binds roles = first_of (map (λ role. role_rule rows chart role (bound_tag binds role)) roles)

-- the module of a role is held
abbrev pub tag_busy : Rows Slot → Option (List ℕ) → Option Rule
tag_busy rows tag = option_and_then (λ tag. busy_module tag (holder_of tag rows)) tag

-- the first module that is held, over the roles
abbrev pub table_busy : Rows Slot → List Bind → List (List ℕ) → Option Rule
table_busy rows binds roles = first_of (map (λ role. tag_busy rows (bound_tag binds role)) roles)

-- the first rule of a start that its binds and its modules break
abbrev pub bind_rule : Rows Slot → PlainChart → PlainAllocation → Option Rule
bind_rule rows chart binds =
    option_or (role_unbound (given binds) (role_names chart))
    (option_or (role_unknown binds (role_names chart))
    (option_or (one_module_twice (given binds) [] (role_names chart))
    (option_or (watched_step binds.watched (steps_in chart) (role_names chart))
    (option_or (table_unfit rows chart (given binds) (role_names chart))
    (table_busy rows binds.held (role_names chart))))))

-- the first rule that the tables say against a start of a recipe with this chart
abbrev pub chart_rule : Rows Slot → List (List ℕ × PlainRun) → List ℕ → PlainAllocation → PlainChart → Option Rule
chart_rule rows runs batch binds chart =
    option_or (when (is_some (lookup (bytes_eq batch) runs)) BatchKnown)
    (option_or (bind_rule rows chart binds) (when (nat_le MOST_BATCHES (length runs)) BatchesFull))
