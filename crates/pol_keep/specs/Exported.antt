-- The journal of the events that a disk keeps, and how a job ends that writes it.
use Rattle.std.specs.Prelude.{ℕ, ◌≡◌, ◌≤◌, List, [], ◌∷◌, ◌++◌, length, Option, Some, Result, Ok, Err}
use Rattle.std.specs.List.{AllByRecursion, flat_map}
use Rattle.std.specs.declared.convert.Infallible.{Infallible}
use Rattle.mtp_codes.specs.declared.limits.TheConstants.{LONGEST_HISTORY}
use Rattle.pol_events.specs.Events.{PlainEvent}
use Rattle.pol_history.specs.Runs.{history_after, run_of}
use Rattle.pol_io.specs.Edge.{Edge}
use Rattle.pol_io.specs.declared.limits.TheConstants.{LONGEST_INPUT, LONGEST_LINE}
use Rattle.pol_jobs.specs.Ends.{IsTooMuch, edge}
use Rattle.pol_jobs.specs.LineWork.{Output, texts_of}
use Rattle.pol_jobs.specs.declared.output.PutFault.{PutFault}
use Rattle.pol_jobs.specs.declared.output.PutFault.TheVariants as put_fault
use Rattle.pol_record.specs.Lines.{closing_text, output_of}
use Rattle.pol_record.specs.Texts.{answer_text, event_text}
use Rattle.pol_journal.specs.Journals.{journal_events, journal_text}
use Rattle.pol_journal.specs.declared.extent.Extent.{Extent}
use Rattle.pol_store.specs.Stands.{StandsFor}
use Rattle.pol_keep.specs.declared.fault.KeepFault.{KeepFault}
use Rattle.pol_keep.specs.declared.fault.KeepFault.TheVariants.{Write, Memory}

-- the output of the job on a plant where these events happened: nothing for lines, and in all the journal of this
-- extent of them
abbrev pub exported_output : Extent → List PlainEvent → Output Infallible
exported_output extent old = texts_of (λ bytes. []) (λ bytes. journal_text (journal_events extent old))

-- an input without a byte, of a source that never fails
abbrev pub no_input : Edge
no_input = edge (Some []) 0

-- how a job ended that only writes, by what became of the writing
abbrev pub put_result : Result (Unit {0}) PutFault → Result (Unit {0}) KeepFault
put_result (Ok done) = Ok done
put_result (Err put_fault.Write) = Err Write
put_result (Err put_fault.Memory) = Err Memory

-- the journal of these events can be read as an input: none of its lines is too long, and it isn't as a whole
pub record IsReplayable (events : List PlainEvent) : Type 0 where
  pub lines : AllByRecursion (λ event. length (event_text event) ≤ LONGEST_LINE) events
  pub fits : length (journal_text events) ≤ LONGEST_INPUT

-- a replay of the journal of these events reads them, and no more: it answers them as their run does, and closes with
-- the lines of its batches and the end line; and it isn't too much
pub record IsReplayed (events : List PlainEvent) : Type 0 where
  pub output : output_of (journal_text events)
      ≡ flat_map (λ entry. answer_text entry.answer) (run_of events) ++ closing_text (history_after [] events)
  pub fits : ¬ IsTooMuch (Some (journal_text events))

-- The journal of the events that an image stands for, at most 200,000, is replayed so, where it can be read.
abbrev pub JournalsAreReplayed : Type 0
JournalsAreReplayed =
    (events : List PlainEvent) (image : List ℕ) → StandsFor events image → length events ≤ LONGEST_HISTORY
    → IsReplayable events → IsReplayed events
