-- The journal of events, and which events of a history it has.
use Rattle.std.specs.Prelude.{ℕ, ◌≡◌, ◌⊎◌, List, [], ◌∷◌, ◌++◌, Option}
use Rattle.std.specs.List.{flat_map}
use Rattle.std.specs.Io.KnownBytes.{Appends}
use Rattle.pol_events.specs.Events.{PlainEvent}
use Rattle.pol_history.specs.Runs.{history_after}
use Rattle.pol_compaction.specs.Compaction.{compacted_events}
use Rattle.pol_jobs.specs.Written.{WritesPart}
use Rattle.pol_record.specs.Texts.{event_text}
use Rattle.pol_journal.specs.declared.extent.Extent.{Extent}
use Rattle.pol_journal.specs.declared.extent.Extent.TheVariants.{Whole, Compacted}

-- the line of an event: its text and a line feed
abbrev pub event_line : PlainEvent → List ℕ
event_line event = event_text event ++ 10 ∷ []

-- the journal of some events: the line of each, in order
abbrev pub journal_text : List PlainEvent → List ℕ
journal_text events = flat_map event_line events

-- of events that happened, those that a journal of this extent has: all, or those that stay where the history of them
-- is compacted
abbrev pub journal_events : Extent → List PlainEvent → List PlainEvent
journal_events Whole events = events
journal_events Compacted events = compacted_events (history_after [] events)

-- what a buffer held was written but for what it still holds
pub record HandsOn (held held' : Option (List ℕ)) (before now : List ℕ) : Type 0 where
  pub written : List ℕ
  pub appended : Appends held held' written
  pub is : written ++ now ≡ before

-- the sink is as it was, or a proper front part of the text was written to it
abbrev pub StopsWithin : {K : Type 0} → (K → Option (List ℕ)) → K → K → List ℕ → Type 0
StopsWithin held sink sink' text = (sink' ≡ sink) ⊎ WritesPart (held sink) (held sink') text
