-- Which entries of a history stay where it is compacted. Entries that come later than a given one are listed here the
-- oldest first, those before it the newest first.
use Rattle.std.specs.Prelude.{Bool, true, false, not, ◌&&◌, List, [], ◌∷◌, filter, map, reverse, if◌then◌else◌}
use Rattle.pol_events.specs.Events.{PlainEvent, plug, unplug, report, variable, exchange_begin, exchange_end}
use Rattle.pol_events.specs.Events.{exchange_cancel, PlainEntry}
use Rattle.pol_history.specs.Looking.{History}
use Rattle.pol_history.specs.Modules.{reported, reported_value}
use Rattle.pol_compaction.specs.Lasting.{is_lasting}
use Rattle.pol_compaction.specs.Reading.{is_replaced, is_read}
use Rattle.pol_compaction.specs.Marks.{marks_of, report_stays, value_stays}

-- an event that lasts stays, between those that last before it and those that last after it: no event of a module that
-- is replaced later stays, and of a module's reports and values those stay that something can still ask for
abbrev pub stays_between : History → History → List PlainEntry → PlainEvent → Bool
stays_between whole older newer (unplug at tag) = false
stays_between whole older newer (plug at tag description) = not (is_replaced tag newer)
stays_between whole older newer (exchange_begin at tag) = not (is_replaced tag newer)
stays_between whole older newer (exchange_end at tag ticket description) = not (is_replaced tag newer)
stays_between whole older newer (exchange_cancel at tag ticket) = not (is_replaced tag newer)
stays_between whole older newer (report at tag service control) =
    not (is_replaced tag newer)
    && report_stays control.state (is_read whole tag older) (marks_of whole tag (reported service) newer)
stays_between whole older newer (variable at tag name value) =
    not (is_replaced tag newer) && value_stays (marks_of whole tag (reported_value name) newer)
stays_between whole older newer _ = true

-- an entry in front of others, if it stays
abbrev pub kept_before : Bool → PlainEntry → List PlainEntry → List PlainEntry
kept_before stay entry rest = if stay then entry ∷ rest else rest

-- of these entries, which last, those that stay
abbrev pub kept_from : History → History → List PlainEntry → List PlainEntry
kept_from whole older [] = []
kept_from whole older (entry ∷ newer) =
    kept_before (stays_between whole older newer entry.event) entry (kept_from whole (entry ∷ older) newer)

-- the entries of a history that stay where it is compacted, the oldest first
abbrev pub compacted : History → List PlainEntry
compacted history = kept_from history [] (reverse (filter (is_lasting history) history))

-- the events of a history that stay where it is compacted, the oldest first
abbrev pub compacted_events : History → List PlainEvent
compacted_events history = map (λ (entry : PlainEntry). entry.event) (compacted history)
