-- The fate of each entry of a history, by what comes after it: it stays, it goes, or it stays only where its module was
-- read since it was moved last.
use Rattle.std.specs.Prelude.{Bool, true, false, List, [], ◌∷◌, Option, Some, None}
use Rattle.std.specs.Prelude.{if◌then◌else◌}
use Rattle.mtp_codes.specs.declared.state.State.{State}
use Rattle.mtp_codes.specs.declared.value.Value.{Value}
use Rattle.mtp_machine.specs.Machine.{same_state}
use Rattle.mtp_assembly.specs.declared.control.ServiceControl.{ServiceControl}
use Rattle.pol_events.specs.Events.{PlainEvent, plug, unplug, report, variable, exchange_begin, exchange_end}
use Rattle.pol_events.specs.Events.{exchange_cancel, PlainEntry}
use Rattle.pol_history.specs.Looking.{History}
use Rattle.pol_history.specs.Modules.{reported, reported_value}
use Rattle.pol_compaction.specs.Flags.{lasting_in}
use Rattle.pol_compaction.specs.Lasting.{is_lasting}
use Rattle.pol_compaction.specs.Marks.{Mark, told, read, moved, marks_of}
use Rattle.pol_compaction.specs.Reading.{is_replaced}
use Rattle.pol_compaction.specs.declared.ahead.Fate.{Fate}
use Rattle.pol_compaction.specs.declared.ahead.Fate.TheVariants.{Stays, StaysIfRead, Goes}

-- an entry of this fate stays, by whether its module was read since it was moved last
abbrev pub stays_by : Fate → Bool → Bool
stays_by Stays was_read = true
stays_by StaysIfRead was_read = was_read
stays_by Goes was_read = false

-- the first of some marks, if there is one
abbrev pub next_of : {A : Type 0} → List (Mark A) → Option (Mark A)
next_of [] = None
next_of (mark ∷ marks) = Some mark

-- the fate of a report of this state, by the next mark
abbrev pub report_fate : State → Option (Mark ServiceControl) → Fate
report_fate state None = Stays
report_fate state (Some (told control)) = if same_state control.state state then Goes else StaysIfRead
report_fate state (Some read) = Stays
report_fate state (Some moved) = StaysIfRead

-- the fate of a value, by the next mark
abbrev pub value_fate : Option (Mark Value) → Fate
value_fate None = Stays
value_fate (Some (told value)) = Goes
value_fate (Some read) = Stays
value_fate (Some moved) = Goes

-- this fate, for an event of a module that isn't replaced later
abbrev pub unless_replaced : Bool → Fate → Fate
unless_replaced replaced fate = if replaced then Goes else fate

-- the fate of an event that lasts, by the entries after it that last
abbrev pub event_fate : History → List PlainEntry → PlainEvent → Fate
event_fate whole newer (unplug at tag) = Goes
event_fate whole newer (plug at tag description) = unless_replaced (is_replaced tag newer) Stays
event_fate whole newer (exchange_begin at tag) = unless_replaced (is_replaced tag newer) Stays
event_fate whole newer (exchange_end at tag ticket description) = unless_replaced (is_replaced tag newer) Stays
event_fate whole newer (exchange_cancel at tag ticket) = unless_replaced (is_replaced tag newer) Stays
event_fate whole newer (report at tag service control) =
    unless_replaced (is_replaced tag newer)
    (report_fate control.state (next_of (marks_of whole tag (reported service) newer)))
event_fate whole newer (variable at tag name value) =
    unless_replaced (is_replaced tag newer) (value_fate (next_of (marks_of whole tag (reported_value name) newer)))
event_fate whole newer _ = Stays

-- the fate of an entry, by all that come after it: one that doesn't last goes
abbrev pub entry_fate : History → List PlainEntry → PlainEntry → Fate
entry_fate whole newer entry =
    if is_lasting whole entry then event_fate whole (lasting_in whole newer) entry.event else Goes

-- the fate of each of these entries, the oldest first
abbrev pub each_fate : History → List PlainEntry → List Fate
each_fate whole [] = []
each_fate whole (entry ∷ newer) = entry_fate whole newer entry ∷ each_fate whole newer
