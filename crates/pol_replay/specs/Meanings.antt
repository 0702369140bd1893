-- What a line says, and what that brings: an output line and a history.
use Rattle.std.specs.Prelude.{ℕ, List, [], Bool, true, not, Some, None, Result, Ok, Err, if◌then◌else◌}
use Rattle.std.specs.List.{list_all}
use Rattle.pol_jobs.specs.LineWork.{Line}
use Rattle.pol_events.specs.Events.{PlainEvent}
use Rattle.event_json.specs.Lines.{is_blank_byte}
use Rattle.event_json.specs.declared.fault.LineFault.{LineFault}
use Rattle.event_json.specs.declared.fault.LineFault.TheVariants.{TooLong}
use Rattle.pol_history.specs.Looking.{History}
use Rattle.pol_history.specs.Answers.{answer_of}
use Rattle.pol_history.specs.Runs.{entry_of, recorded}
use Rattle.pol_record.specs.Texts.{answer_text, fault_text}

-- ---- by any form

-- what a line says by its form: nothing, where it holds only spaces, tabs and carriage returns; its fault; or an event,
-- maybe with who asks for it
pub data LineMeaning (Said : Type 0) : Type 0 where
  nothing : LineMeaning Said
  at_fault : (fault : LineFault) → LineMeaning Said
  says : (said : Said) → LineMeaning Said

-- whether a line that a job meets isn't blank; one that is too long never is
abbrev pub is_some_line : Line → Bool
is_some_line None = true
is_some_line (Some text) = not (list_all is_blank_byte text)

-- what is said or at fault, as a line says it
abbrev pub meaning_from : {P : Type 0} → Result P LineFault → LineMeaning P
meaning_from (Ok said) = says said
meaning_from (Err fault) = at_fault fault

-- what a line says by a form, as a job meets it
abbrev pub meaning_met : {P : Type 0} → (List ℕ → Result P LineFault) → Line → LineMeaning P
meaning_met said_of None = at_fault TooLong
meaning_met said_of (Some text) =
    if list_all is_blank_byte text then nothing else meaning_from (said_of text)

-- ---- of a journal

-- the output line that a line's saying brings after a history
abbrev pub reply_text : History → LineMeaning PlainEvent → List ℕ
reply_text history nothing = []
reply_text history (at_fault fault) = fault_text fault
reply_text history (says event) = answer_text (answer_of history event)

-- the history that a line's saying leaves after a history
abbrev pub after_meaning : History → LineMeaning PlainEvent → History
after_meaning history nothing = history
after_meaning history (at_fault fault) = history
after_meaning history (says event) = recorded (entry_of history event) history
