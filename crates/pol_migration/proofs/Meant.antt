-- What a line becomes as it is met, by what it says.
use Rattle.std.proofs.Common.{◌≡◌, ℕ, Bool, true, false, List, [], Result, Ok, Err, Some, None, refl, ap, sym, ◌∙◌}
use Rattle.std.proofs.Common.{if◌then◌else◌}
use Rattle.std.specs.List.{list_all}
use Rattle.pol_events.specs.Events.{PlainEvent}
use Rattle.event_json.specs.Lines.{is_blank_byte}
use Rattle.event_json.specs.Version1.{event_of_version_1}
use Rattle.event_json.specs.declared.fault.LineFault.{LineFault}
use Rattle.pol_jobs.specs.LineWork.{Line}
use Rattle.pol_record.specs.Lines as lines
use Rattle.pol_replay.specs.Meanings.{LineMeaning, at_fault, meaning_from, meaning_met, nothing, says}
use Rattle.pol_migration.specs.Job.{migrated_met}
use Rattle.pol_migration.specs.Migration.{migrated_event, migrated_line}

-- what a line becomes by what it says
abbrev pub becomes : List ℕ → LineMeaning PlainEvent → List ℕ
becomes text nothing = []
becomes text (at_fault fault) = []
becomes text (says event) = migrated_event text event

-- it does, as it is met
line_becomes : (text : List ℕ) → becomes text (meaning_met event_of_version_1 (Some text)) ≡ migrated_met (Some text)
line_becomes text = by_blank (list_all is_blank_byte text) (event_of_version_1 text)
  where
    by_blank : (blank : Bool) (said : Result PlainEvent LineFault) →
        becomes text (if blank then nothing else meaning_from said)
        ≡ migrated_line text (if blank then lines.nothing else lines.meaning_from said)
    by_blank true said = refl
    by_blank false (Ok event) = refl
    by_blank false (Err fault) = refl

-- so an event becomes its line
pub event_becomes : (text : List ℕ) (event : PlainEvent) →
    meaning_met event_of_version_1 (Some text) ≡ says event → migrated_met (Some text) ≡ migrated_event text event
event_becomes text event is = sym (line_becomes text) ∙ ap (becomes text) is

-- and a line at fault becomes nothing
pub fault_becomes : (line : Line) (fault : LineFault) → meaning_met event_of_version_1 line ≡ at_fault fault →
    migrated_met line ≡ []
fault_becomes None fault is = refl
fault_becomes (Some text) fault is = sym (line_becomes text) ∙ ap (becomes text) is
