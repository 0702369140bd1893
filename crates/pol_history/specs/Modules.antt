-- Looking back at a module: each value is found in the module's past.
use Rattle.std.specs.Prelude.{ℕ, suc, Bool, true, false, not, List, [], ◌∷◌, length, filter, filter_map, Option, Some}
use Rattle.std.specs.Prelude.{None, unwrap_or, reverse, if◌then◌else◌}
use Rattle.std.specs.Option.{option_map}
use Rattle.std.specs.Str.{bytes_eq}
use Rattle.mtp_codes.specs.declared.state.State.{State}
use Rattle.mtp_codes.specs.declared.value.Value.{Value}
use Rattle.mtp_assembly.specs.declared.control.ServiceControl.{ServiceControl}
use Rattle.mtp_modes.specs.declared.view.ServiceView.{ServiceView}
use Rattle.mtp_desc.specs.Plain.{PlainDescription}
use Rattle.pol_events.specs.Events.{PlainEvent, plug, unplug, report, variable, exchange_begin, exchange_end}
use Rattle.pol_events.specs.Events.{exchange_cancel}
pub use Rattle.pol_events.specs.Views.{completes_by, seen_with}
use Rattle.pol_events.specs.declared.answer.Answer.{Answer}
use Rattle.pol_events.specs.declared.answer.Answer.TheVariants.{Ticket}
use Rattle.pol_history.specs.Looking.{History, past, last_of, since, after_last, is_accepted}

-- whether a tag is docked: if so, how often it was since the last plug, that plug included; or away, with its ticket
pub data Docking : Type 0 where
  absent : Docking
  docked : (count : ℕ) → Docking
  away : (ticket : ℕ) → Docking

-- the event plugs a module
abbrev pub is_plug : PlainEvent → Bool
is_plug (plug at tag description) = true
is_plug _ = false

-- the event begins an exchange
abbrev pub is_begin : PlainEvent → Bool
is_begin (exchange_begin at tag) = true
is_begin _ = false

-- the event docks a module: it plugs it, or ends or cancels its exchange
abbrev pub is_docking : PlainEvent → Bool
is_docking (plug at tag description) = true
is_docking (exchange_end at tag ticket description) = true
is_docking (exchange_cancel at tag ticket) = true
is_docking _ = false

-- the event changes whether the module is docked
abbrev pub is_moving : PlainEvent → Bool
is_moving (plug at tag description) = true
is_moving (unplug at tag) = true
is_moving (exchange_begin at tag) = true
is_moving (exchange_end at tag ticket description) = true
is_moving (exchange_cancel at tag ticket) = true
is_moving _ = false

-- the dockings since the last plug, that plug included
abbrev pub dockings_by : History → ℕ
dockings_by past = length (filter (λ entry. is_docking entry.event) (since (λ entry. is_plug entry.event) past))

-- the exchanges that were begun since the last plug
abbrev pub begins_by : History → ℕ
begins_by past = length (filter (λ entry. is_begin entry.event) (since (λ entry. is_plug entry.event) past))

-- the ticket of the next exchange: one more than the exchanges since the last plug
abbrev pub next_ticket : History → ℕ
next_ticket past = suc (begins_by past)

-- the ticket that an answer gives
abbrev pub ticket_in : Answer → ℕ
ticket_in (Ticket ticket) = ticket
ticket_in _ = 0

-- the docking that an event leaves, with its answer
abbrev pub docking_after : History → PlainEvent → Answer → Option Docking
docking_after past (plug at tag description) answer = Some (docked (dockings_by past))
docking_after past (unplug at tag) answer = Some absent
docking_after past (exchange_begin at tag) answer = Some (away (ticket_in answer))
docking_after past (exchange_end at tag ticket description) answer = Some (docked (dockings_by past))
docking_after past (exchange_cancel at tag ticket) answer = Some (docked (dockings_by past))
docking_after past _ answer = None

-- whether the module is docked, by its past
abbrev pub docking_by : History → Docking
docking_by past = unwrap_or (last_of (λ entry. docking_after past entry.event entry.answer) past) absent

-- the ticket under which the module is away
abbrev pub ticket_of : Docking → Option ℕ
ticket_of absent = None
ticket_of (docked count) = None
ticket_of (away ticket) = Some ticket

-- whether the tag is docked
abbrev pub docking_of : History → List ℕ → Docking
docking_of history tag = docking_by (past tag history)

-- the description that an event brings
abbrev pub described : PlainEvent → Option PlainDescription
described (plug at tag description) = Some description
described (exchange_end at tag ticket description) = Some description
described _ = None

-- the module's description, by its past
abbrev pub description_by : History → Option PlainDescription
description_by past = last_of (λ entry. described entry.event) past

-- the tag's description: that of the last plug or of the last end of an exchange
abbrev pub description_of : History → List ℕ → Option PlainDescription
description_of history tag = description_by (past tag history)

-- what happened to the module after its last docking, whether it is docked still or not
abbrev pub after_docking : History → History
after_docking past = after_last (λ entry. is_docking entry.event) past

-- what happened to a docked module since it was docked
abbrev pub since_docking : History → History
since_docking past = after_last (λ entry. is_moving entry.event) past

-- the control that an event reports of the service
abbrev pub reported : List ℕ → PlainEvent → Option ServiceControl
reported service (report at tag other control) = if bytes_eq other service then Some control else None
reported service _ = None

-- the control that the service reported last since docking, by the module's past
abbrev pub control_by : List ℕ → History → Option ServiceControl
control_by service past = last_of (λ entry. reported service entry.event) (since_docking past)

-- what is seen of the service, by the module's past: its last report since docking
abbrev pub view_by : List ℕ → History → Option ServiceView
view_by service past = option_map (seen_with service (description_by past)) (control_by service past)

-- what is seen of the tag's service
abbrev pub view_of : History → List ℕ → List ℕ → Option ServiceView
view_of history tag service = view_by service (past tag history)

-- the value that an event reports of the variable
abbrev pub reported_value : List ℕ → PlainEvent → Option Value
reported_value name (variable at tag other value) = if bytes_eq other name then Some value else None
reported_value name _ = None

-- the value that the variable was reported with last since docking, by the module's past
abbrev pub value_by : List ℕ → History → Option Value
value_by name past = last_of (λ entry. reported_value name entry.event) (since_docking past)

-- the states that the service reported in these entries
abbrev pub states_in : List ℕ → History → List State
states_in service entries = filter_map (λ entry. option_map (λ control. control.state)
    (reported service entry.event)) entries

-- the states that the service reported after the module's last docking, the oldest first
abbrev pub reported_states : History → List ℕ → List ℕ → List State
reported_states history tag service = reverse (states_in service (after_docking (past tag history)))

-- the tags without this one
abbrev pub tags_without : List ℕ → List (List ℕ) → List (List ℕ)
tags_without tag tags = filter (λ other. not (bytes_eq other tag)) tags

-- the tags that are docked or away after one more event
abbrev pub present_after : PlainEvent → Bool → List (List ℕ) → List (List ℕ)
present_after (plug at tag description) true tags = tag ∷ tags_without tag tags
present_after (unplug at tag) true tags = tags_without tag tags
present_after _ _ tags = tags

-- the tags that are docked or away, each once
abbrev pub present_tags : History → List (List ℕ)
present_tags [] = []
present_tags (entry ∷ older) = present_after entry.event (is_accepted entry.answer) (present_tags older)
