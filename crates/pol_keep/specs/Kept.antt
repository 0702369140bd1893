-- What the job on a kept plant writes and keeps, and how a job on one ends.
use Rattle.std.specs.Prelude.{ℕ, ◌≡◌, ◌≤◌, ◌⊎◌, List, [], ◌∷◌, ◌++◌, length, map, if◌then◌else◌, Option, IfSome, Result}
use Rattle.std.specs.Prelude.{Ok, Err}
use Rattle.std.specs.declared.convert.Infallible.{Infallible}
use Rattle.mtp_codes.specs.declared.limits.TheConstants.{LONGEST_HISTORY}
use Rattle.pol_events.specs.Events.{PlainEvent}
use Rattle.pol_history.specs.Answers.{answer_of}
use Rattle.pol_history.specs.Looking.{History}
use Rattle.pol_history.specs.Runs.{IsLegal, IsOrderly, entry_of, history_after, is_recorded, recorded}
use Rattle.pol_io.specs.Edge.{Edge}
use Rattle.pol_io.specs.Pieces.{pieces}
use Rattle.pol_jobs.specs.Ends.{Completes, Ends}
use Rattle.pol_jobs.specs.LineWork.{Output, texts_of}
use Rattle.pol_jobs.specs.declared.fault.JobFault.{JobFault}
use Rattle.pol_jobs.specs.declared.fault.JobFault.TheVariants as job
use Rattle.pol_record.specs.Lines.{answered_lines_after, answered_texts, closing_text, events_in, input_line_of}
use Rattle.pol_store.specs.Stands.{StandsFor}
use Rattle.pol_kept.specs.declared.opening.OpenFault.{OpenFault}
use Rattle.pol_kept.specs.declared.opening.OpenFault.TheVariants as opening
use Rattle.pol_keep.specs.declared.fault.DiskFailed.{DiskFailed}
use Rattle.pol_keep.specs.declared.fault.KeepFault.{KeepFault}
use Rattle.pol_keep.specs.declared.fault.KeepFault.TheVariants.{Read, Write, Memory, TooMuch, Disk, NotAStore}

-- the history of the run of old events and of those of some lines, each with its line feed
abbrev pub run_with : List PlainEvent → List (List ℕ) → History
run_with old lines = history_after [] (old ++ events_in (map input_line_of lines))

-- of events that come after a history, those that are recorded: all but those that are answered HistoryFull
abbrev pub kept_events : History → List PlainEvent → List PlainEvent
kept_events history [] = []
kept_events history (event ∷ events) =
    let later = kept_events (recorded (entry_of history event) history) events in
    if is_recorded (answer_of history event) then event ∷ later else later

-- the old events, and those of some lines that are recorded
abbrev pub events_with : List PlainEvent → List (List ℕ) → List PlainEvent
events_with old lines = old ++ kept_events (history_after [] old) (events_in (map input_line_of lines))

-- the answer and fault lines of some lines in the run of old events and of those of the lines
abbrev pub answers_with : List PlainEvent → List (List ℕ) → List ℕ
answers_with old lines = answered_texts (answered_lines_after (history_after [] old) (map input_line_of lines))

-- the output of the job on a plant where these events happened: the answer or fault line of each line that isn't blank
-- in the run of the old and the new events, and then the lines of the batches of that whole run and the end line
abbrev pub kept_output : List PlainEvent → Output Infallible
kept_output old =
    texts_of (λ bytes. answers_with old (pieces bytes)) (λ bytes. closing_text (run_with old (pieces bytes)))

-- ---- how the job ends

-- the disk failed
abbrev pub disk_failed : DiskFailed
disk_failed = record {}

-- the result of a job over lines that ended so
abbrev pub job_result : Result (Unit {0}) KeepFault → Result (Unit {0}) (JobFault Infallible DiskFailed)
job_result (Ok done) = Ok done
job_result (Err Read) = Err job.Read
job_result (Err Write) = Err job.Write
job_result (Err Memory) = Err job.Memory
job_result (Err TooMuch) = Err job.TooMuch
job_result (Err Disk) = Err (job.Failed disk_failed)
job_result (Err (NotAStore place)) = Err job.Memory

-- the fault of a job whose disk wasn't opened for this one
abbrev pub IsFaultOf : OpenFault → KeepFault → Type 0
IsFaultOf opening.Memory fault = fault ≡ Memory
IsFaultOf opening.Disk fault = fault ≡ Disk
IsFaultOf (opening.NotAStore place) fault = fault ≡ NotAStore place

-- The disk stood for these old events, at most 200,000, and the job ended as one with their output does. The run of the
-- old events and of those of any lines is legal and orderly, so that all that is proved of such histories holds of it.
pub record Keeps (output : List PlainEvent → Output Infallible) (seen : Option (List ℕ))
    (source source' sink sink' : Edge) (result : Result (Unit {0}) (JobFault Infallible DiskFailed)) : Type 0 where
  pub old : List PlainEvent
  pub few : length old ≤ LONGEST_HISTORY
  pub stood : IfSome seen (StandsFor old)
  pub runs : (lines : List (List ℕ)) → IsLegal (run_with old lines) × IsOrderly (run_with old lines)
  pub ends : Ends (output old) source source' sink sink' result
  pub complete : Completes (output old) source source' sink sink' result

-- nothing was read or written
abbrev pub IsUntouched : Edge → Edge → Edge → Edge → Type 0
IsUntouched source source' sink sink' = (source' ≡ source) × (sink' ≡ sink)

-- How a job with this output of the old events ended on a disk that read as these bytes, by its source and its sink
-- before and after.
abbrev pub KeepEnds : (List PlainEvent → Output Infallible) → Option (List ℕ) → Edge → Edge → Edge → Edge
    → Result (Unit {0}) KeepFault → Type 0
KeepEnds output seen source source' sink sink' (Ok done) = Keeps output seen source source' sink sink' (Ok done)
KeepEnds output seen source source' sink sink' (Err Read) = Keeps output seen source source' sink sink' (Err job.Read)
KeepEnds output seen source source' sink sink' (Err Write) = Keeps output seen source source' sink sink' (Err job.Write)
KeepEnds output seen source source' sink sink' (Err Memory) =
    IsUntouched source source' sink sink' ⊎ Keeps output seen source source' sink sink' (Err job.Memory)
KeepEnds output seen source source' sink sink' (Err TooMuch) =
    Keeps output seen source source' sink sink' (Err job.TooMuch)
KeepEnds output seen source source' sink sink' (Err Disk) =
    IsUntouched source source' sink sink' ⊎ Keeps output seen source source' sink sink' (Err (job.Failed disk_failed))
KeepEnds output seen source source' sink sink' (Err (NotAStore place)) = IsUntouched source source' sink sink'

-- the job ended since the disk is no store, or since there was no memory
abbrev pub IsUnopened : Result (Unit {0}) KeepFault → Type 0
IsUnopened (Ok done) = ⊥
IsUnopened (Err Memory) = Unit {0}
IsUnopened (Err (NotAStore place)) = Unit {0}
IsUnopened (Err _) = ⊥
