-- How a job over lines ends: a row for each result.
use Rattle.std.specs.Prelude.{ℕ, ◌≡◌, ◌<◌, ◌≤◌, List, [], ◌∷◌, ◌++◌, length, IsTrue, Option, IfSome, Result, Ok, Err}
use Rattle.std.specs.Io.KnownBytes.{Appends}
use Rattle.pol_io.specs.Causes.{Rose}
use Rattle.pol_io.specs.Edge.{Edge}
use Rattle.pol_io.specs.Known.{Between}
use Rattle.pol_io.specs.Pieces.{is_whole, has_no_feed, pieces}
use Rattle.pol_io.specs.declared.limits.TheConstants.{LONGEST_INPUT}
use Rattle.pol_jobs.specs.LineWork.{Output, AcceptsAll, AcceptsLines, line_met}
use Rattle.pol_jobs.specs.Written.{WritesSome, WritesPart}
use Rattle.pol_jobs.specs.declared.fault.JobFault.{JobFault}
use Rattle.pol_jobs.specs.declared.fault.JobFault.TheVariants.{Read, Write, Memory, TooMuch, Failed, Refused}

-- a source or a sink at some time: its bytes, where they are known, and how often it has failed
abbrev pub edge : Option (List ℕ) → ℕ → Edge
edge bytes faults = record { bytes = bytes; faults = faults }

-- ---- what was read and written

-- the input was read to its end, and it has no more bytes than an input may have
pub record IsRead (bytes left : List ℕ) : Type 0 where
  pub to_end : left ≡ []
  pub fits : length bytes ≤ LONGEST_INPUT

-- what was taken of an input: whole lines, and then a part of a line; and what is left of it
pub record Takes (bytes left : List ℕ) : Type 0 where
  pub whole : List ℕ
  pub part : List ℕ
  pub cut : bytes ≡ whole ++ part ++ left
  pub whole_lines : IsTrue (is_whole whole)
  pub no_feed : IsTrue (has_no_feed part)

-- the input was read to its end, its lines were replied to, and the output was closed: no line was refused, nor the
-- input at its end
pub record Writes {Reason : Type 0} (output : Output Reason) (held held' : Option (List ℕ)) (bytes left : List ℕ)
    : Type 0 where
  pub read : IsRead bytes left
  pub accepted : AcceptsAll output bytes
  pub closing : List ℕ
  pub may : output.Closing bytes closing
  pub written : Appends held held' (output.replies bytes ++ closing)

-- what was written is exactly what is replied to the lines whose line feed was taken; none of them was refused
pub record WritesTaken {Reason : Type 0} (output : Output Reason) (held held' : Option (List ℕ)) (bytes left : List ℕ)
    : Type 0 where
  pub takes : Takes bytes left
  pub accepted : AcceptsLines output takes.whole
  pub written : Appends held held' (output.replies takes.whole)

-- what was written is exactly what is replied to the lines whose line feed was taken; 268,435,456 bytes were taken, as
-- many as an input may have, and another one came
pub record WritesTakenAndMore {Reason : Type 0} (output : Output Reason) (held held' : Option (List ℕ))
    (bytes left : List ℕ) : Type 0 where
  pub last : ℕ
  pub taken : WritesTaken output held held' bytes (last ∷ left)
  pub full : length (taken.takes.whole ++ taken.takes.part) ≡ LONGEST_INPUT

-- what was written is a front part of what is replied to the lines whose line feed was taken
pub record WritesTakenPart {Reason : Type 0} (output : Output Reason) (held held' : Option (List ℕ))
    (bytes left : List ℕ) : Type 0 where
  pub takes : Takes bytes left
  pub some : WritesSome held held' (output.replies takes.whole)

-- the input was read to its end, and a front part of the replies to its lines was written
pub record WritesReplies {Reason : Type 0} (output : Output Reason) (held held' : Option (List ℕ))
    (bytes left : List ℕ) : Type 0 where
  pub read : IsRead bytes left
  pub some : WritesSome held held' (output.replies bytes)

-- the input was read to its end, and a proper front part of its output was written
pub record WritesLess {Reason : Type 0} (output : Output Reason) (held held' : Option (List ℕ)) (bytes left : List ℕ)
    : Type 0 where
  pub read : IsRead bytes left
  pub closing : List ℕ
  pub may : output.Closing bytes closing
  pub part : WritesPart held held' (output.replies bytes ++ closing)

-- what was written where a job stopped: a part of the replies, or all of them and a part of what closes the output
pub data LeavesPart {Reason : Type 0} (output : Output Reason) (held held' : Option (List ℕ)) (bytes left : List ℕ)
    : Type 0 where
  stopped_within : WritesTakenPart output held held' bytes left → LeavesPart output held held' bytes left
  stopped_at_end : WritesReplies output held held' bytes left → LeavesPart output held held' bytes left
  stopped_closing : WritesLess output held held' bytes left → LeavesPart output held held' bytes left

-- the job refused its input with a line of it, for this reason, and none of the lines before: exactly the replies to
-- those were written
pub record RefusesLine {Reason : Type 0} (output : Output Reason) (reason : Reason) (held held' : Option (List ℕ))
    (bytes left : List ℕ) : Type 0 where
  pub done : List ℕ
  pub piece : List ℕ
  pub waiting : List ℕ
  pub cut : bytes ≡ done ++ (piece ++ (waiting ++ left))
  pub is_line : pieces bytes ≡ pieces done ++ piece ∷ pieces (waiting ++ left)
  pub accepted : AcceptsLines output done
  pub refuses : output.Refuses done (line_met piece) reason
  pub written : Appends held held' (output.replies done)

-- the job refused its input at the end, for this reason, and none of its lines: exactly the replies to those were
-- written
pub record RefusesInput {Reason : Type 0} (output : Output Reason) (reason : Reason) (held held' : Option (List ℕ))
    (bytes left : List ℕ) : Type 0 where
  pub read : IsRead bytes left
  pub accepted : AcceptsLines output bytes
  pub refuses : output.RefusesEnd bytes reason
  pub written : Appends held held' (output.replies bytes)

-- the job refused its input for this reason, with a line or at the end
pub data IsRefused {Reason : Type 0} (output : Output Reason) (reason : Reason) (held held' : Option (List ℕ))
    (bytes left : List ℕ) : Type 0 where
  refused_line : RefusesLine output reason held held' bytes left → IsRefused output reason held held' bytes left
  refused_input : RefusesInput output reason held held' bytes left → IsRefused output reason held held' bytes left

-- ---- causes

-- the input has more than 268,435,456 bytes
abbrev pub IsTooMuch : Option (List ℕ) → Type 0
IsTooMuch left = IfSome left (λ bytes. LONGEST_INPUT < length bytes)

-- the source or sink didn't fail
abbrev pub IsWell : Edge → Edge → Type 0
IsWell before now = now.faults ≡ before.faults

-- the source or sink failed
abbrev pub DidFail : Edge → Edge → Type 0
DidFail before now = Rose before.faults now.faults

-- ---- the rows

-- How a job with this output ended, by its source and its sink before and after: for each result what was written, and
-- what causes it.
abbrev pub Ends : {Reason Failure : Type 0} → Output Reason → Edge → Edge → Edge → Edge
    → Result (Unit {0}) (JobFault Reason Failure) → Type 0
Ends output source source' sink sink' (Ok done) =
    Between (Writes output sink.bytes sink'.bytes) source.bytes source'.bytes
    × IsWell source source' × IsWell sink sink'
Ends output source source' sink sink' (Err Read) =
    Between (WritesTaken output sink.bytes sink'.bytes) source.bytes source'.bytes
    × DidFail source source' × IsWell sink sink'
Ends output source source' sink sink' (Err Write) =
    Between (LeavesPart output sink.bytes sink'.bytes) source.bytes source'.bytes
    × IsWell source source' × DidFail sink sink'
Ends output source source' sink sink' (Err Memory) =
    Between (LeavesPart output sink.bytes sink'.bytes) source.bytes source'.bytes
    × IsWell source source' × IsWell sink sink'
Ends output source source' sink sink' (Err TooMuch) =
    Between (WritesTakenAndMore output sink.bytes sink'.bytes) source.bytes source'.bytes
    × IsWell source source' × IsWell sink sink' × IsTooMuch source.bytes
Ends output source source' sink sink' (Err (Failed failure)) =
    Between (LeavesPart output sink.bytes sink'.bytes) source.bytes source'.bytes
    × IsWell source source' × IsWell sink sink'
Ends output source source' sink sink' (Err (Refused reason)) =
    Between (IsRefused output reason sink.bytes sink'.bytes) source.bytes source'.bytes
    × IsWell source source' × IsWell sink sink'

-- ---- what the rows mean where nothing fails

-- the result is the one that is due: done, where nothing of the input is refused, a refusal where something is; or
-- there was no memory, or what the job works with failed
abbrev pub IsDue : {Reason Failure : Type 0} → Output Reason → List ℕ → Result (Unit {0}) (JobFault Reason Failure)
    → Type 0
IsDue output bytes (Ok done) = AcceptsAll output bytes
IsDue output bytes (Err Memory) = Unit {0}
IsDue output bytes (Err (Failed failure)) = Unit {0}
IsDue output bytes (Err (Refused reason)) = ¬ AcceptsAll output bytes
IsDue output bytes (Err _) = ⊥

-- with no fault of source or sink, and an input that fits, the result is the one that is due
abbrev pub Completes : {Reason Failure : Type 0} → Output Reason → Edge → Edge → Edge → Edge
    → Result (Unit {0}) (JobFault Reason Failure) → Type 0
Completes output source source' sink sink' result =
    ¬ DidFail source source' → ¬ DidFail sink sink'
    → Between (λ bytes left. length bytes ≤ LONGEST_INPUT → IsDue output bytes result) source.bytes source'.bytes
