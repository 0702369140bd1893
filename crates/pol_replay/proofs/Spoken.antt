-- What a line says, by how it was read and met.
use Rattle.std.proofs.Common.{ℕ, ◌≡◌, ◌∙◌, List, Bool, IsTrue, length, not, true, false, ap, refl, if◌then◌else◌}
use Rattle.std.specs.Prelude.{Ok, Err, Result, Some, None, nat_lt}
use Rattle.std.specs.List.{list_all}
use Rattle.pol_io.specs.declared.limits.TheConstants.{LONGEST_LINE}
use Rattle.pol_jobs.specs.LineWork.{met}
use Rattle.pol_jobs.proofs.Meeting.{met_by_length}
use Rattle.pol_events.specs.Events.{PlainEvent}
use Rattle.event_json.specs.Lines.{event_of, is_blank_byte}
use Rattle.event_json.specs.declared.fault.LineFault.{LineFault}
use Rattle.event_json.specs.declared.fault.LineFault.TheVariants.{TooLong}
use Rattle.pol_record.specs.Lines as lines
use Rattle.pol_replay.specs.Meanings.{LineMeaning, at_fault, is_some_line, meaning_from, meaning_met, nothing}
use Rattle.pol_replay.specs.Meanings.{says}

-- a line that isn't blank says what its form gives
says_some : {P : Type 0} (said_of : List ℕ → Result P LineFault) (line : List ℕ) →
    IsTrue (is_some_line (Some line)) → meaning_met said_of (Some line) ≡ meaning_from (said_of line)
says_some said_of line some = by_blank (list_all is_blank_byte line) some
  where
    by_blank : (blank : Bool) → IsTrue (not blank) →
        (if blank then nothing else meaning_from (said_of line)) ≡ meaning_from (said_of line)
    by_blank true some = cc
    by_blank false some = refl

-- so it says this
pub says_what : {P : Type 0} (said_of : List ℕ → Result P LineFault) (line : List ℕ) (said : P) →
    IsTrue (is_some_line (Some line)) → said_of line ≡ Ok said → meaning_met said_of (Some line) ≡ says said
says_what said_of line said some is = says_some said_of line some ∙ ap meaning_from is

-- or it has this fault
pub has_fault : {P : Type 0} (said_of : List ℕ → Result P LineFault) (line : List ℕ) (fault : LineFault) →
    IsTrue (is_some_line (Some line)) → said_of line ≡ Err fault → meaning_met said_of (Some line) ≡ at_fault fault
has_fault said_of line fault some is = says_some said_of line some ∙ ap meaning_from is

-- what a line of a journal says, as the definition of the output has it
abbrev pub in_journal : LineMeaning PlainEvent → lines.LineMeaning
in_journal nothing = lines.nothing
in_journal (at_fault fault) = lines.a_fault fault
in_journal (says event) = lines.an_event event

-- the same, of what is said or at fault
in_journal_from : (said : Result PlainEvent LineFault) → in_journal (meaning_from said) ≡ lines.meaning_from said
in_journal_from (Ok event) = refl
in_journal_from (Err fault) = refl

-- a line says what it says as it is met
pub met_means : (line : List ℕ) → in_journal (meaning_met event_of (met line)) ≡ lines.meaning_of line
unfolding lines.meaning_of
met_means line =
    ap (λ line. in_journal (meaning_met event_of line)) (met_by_length line)
    ∙ by_length (nat_lt LONGEST_LINE (length line))
  where
    by_blank : (blank : Bool) → in_journal (if blank then nothing else meaning_from (event_of line))
        ≡ (if blank then lines.nothing else lines.meaning_from (event_of line))
    by_blank true = refl
    by_blank false = in_journal_from (event_of line)

    by_length : (long : Bool) → in_journal (meaning_met event_of (if long then None else Some line))
        ≡ (if long then lines.a_fault TooLong else lines.short_meaning line)
    by_length true = refl
    by_length false = by_blank (list_all is_blank_byte line)
