-- How far a job over lines has come, and what it has written when it stops.
use Rattle.std.specs.Prelude.{ℕ, ◌≡◌, ◌<◌, ◌≤◌, List, [], ◌++◌, map, Bool, true, false, IsTrue, Option, Some, None, Result, IfErr, IfNone, OnOk, OnSome}
use Rattle.std.specs.Result.{is_ok}
use Rattle.std.specs.Io.KnownBytes.{Appends, IsAtEnd}
use Rattle.pol_io.specs.Known.{Between, Counts}
use Rattle.pol_io.specs.LinesState.{LinesState, ahead, given}
use Rattle.pol_io.specs.Pieces.{pieces, IsFirstLine, IsDone}
use Rattle.pol_io.specs.declared.limits.TheConstants.{LONGEST_INPUT}
use Rattle.pol_jobs.specs.LineWork.{Line, LineWork, Output, Accepts, AcceptsLines, line_met, met, replies, replies_to, after_all, after_each, output_by}
use Rattle.pol_jobs.specs.Ends.{IsRead, WritesTaken, WritesTakenAndMore, LeavesPart, IsRefused}
use Rattle.pol_jobs.specs.Faults.{RefusedFor}
use Rattle.pol_jobs.specs.Settling.{Deeds, Meets}
use Rattle.pol_jobs.specs.declared.fault.JobFault.{JobFault}
use Rattle.pol_jobs.specs.declared.fault.JobFault.TheVariants.{Read, Write, Memory, TooMuch, Failed, Refused}
use Rattle.pol_jobs.specs.declared.stop.Stop.{Stop}

-- a job between two lines: what it knows, how far the lines are read, and what the source has left
pub record Moment (State : Type 0) : Type 0 where
  pub state : State
  pub lines : LinesState
  pub left : Option (List ℕ)

-- the moment with this state, these lines and these bytes left
abbrev pub moment : {State : Type 0} → State → LinesState → Option (List ℕ) → Moment State
moment state lines left = record { state = state; lines = lines; left = left }

-- lines of which nothing was read yet
pub record IsFresh (lines : LinesState) : Type 0 where
  pub waiting : lines.waiting ≡ []
  pub taken : lines.taken ≡ 0
  pub unended : lines.ended ≡ false
  pub sound : IsTrue lines.sound

-- what reading keeps of the lines and of the source, from one moment to another
pub record Moves {State : Type 0} (before now : Moment State) : Type 0 where
  pub counted : Between (Counts before.lines.taken now.lines.taken) before.left now.left
  pub limit : now.lines.taken ≤ LONGEST_INPUT
  pub spent : IsTrue now.lines.ended → now.lines.waiting ≡ []
  pub at_end : IsTrue now.lines.ended → (IsTrue before.lines.ended → IsAtEnd before.left) → IsAtEnd now.left
  pub sound : IsTrue now.lines.sound

-- The lines before the rest were replied to since the first moment, and what the job knows now is what it knows after
-- them: the replies to those that are settled were written, and a buffer holds the replies to those that wait behind
-- them.
pub record Served {State Reason : Type 0} (work : LineWork State Reason) (first now : Moment State)
    (held held' : Option (List ℕ)) (buffer bytes rest : List ℕ) : Type 0 where
  pub done : List ℕ
  pub settled : List (List ℕ)
  pub waiting : List (List ℕ)
  pub are : pieces done ≡ settled ++ waiting
  pub so_far : IsDone now.lines.ended bytes done rest
  pub state_is : now.state ≡ after_all work first.state (pieces done)
  pub written : Appends held held' (replies work first.state settled)
  pub held_back : buffer ≡ replies work (after_all work first.state settled) waiting
  pub accepted : AcceptsLines (output_by work first.state) done

-- the lines before the rest were replied to since the first moment: the settled ones and those that wait are these
pub record ServedLines {State Reason : Type 0} (work : LineWork State Reason) (settled waiting : List Line)
    (first now : Moment State) (held held' : Option (List ℕ)) (buffer bytes rest : List ℕ) : Type 0 where
  pub served : Served work first now held held' buffer bytes rest
  pub settled_are : settled ≡ map line_met served.settled
  pub waiting_are : waiting ≡ map line_met served.waiting

-- the lines before the rest were replied to since the first moment, and `Did` says what else the job did meanwhile;
-- which lines they are is known where the source's bytes are known
pub record HasServed {State Reason : Type 0} (work : LineWork State Reason)
    (Did : List Line → List Line → Bool → Type 0) (first now : Moment State) (held held' : Option (List ℕ))
    (buffer : List ℕ) : Type 0 where
  pub settled : List Line
  pub waiting : List Line
  pub did : Did settled waiting true
  pub served : Between (ServedLines work settled waiting first now held held' buffer) first.left
      (ahead now.lines now.left)

-- the lines before the rest were replied to since the first moment, where the source's bytes are known
abbrev pub IsServed : {State Reason : Type 0} → LineWork State Reason → Moment State → Moment State → Option (List ℕ)
    → Option (List ℕ) → List ℕ → Type 0
IsServed work first now held held' buffer =
    Between (Served work first now held held' buffer) first.left (ahead now.lines now.left)

-- Since the first state lines were replied to, whether or not the source's bytes are known: the replies to those that
-- are settled were written, and a buffer holds the replies to those that wait behind them.
pub record HasReplied {State Reason : Type 0} (work : LineWork State Reason) (start now : State)
    (held held' : Option (List ℕ)) (buffer : List ℕ) : Type 0 where
  pub settled : List Line
  pub waiting : List Line
  pub state_is : now ≡ after_each work start (settled ++ waiting)
  pub written : Appends held held' (replies_to work start settled)
  pub held_back : buffer ≡ replies_to work (after_each work start settled) waiting

-- the input was read to its end, its lines were replied to, and this is what the job knows after them
pub record Replied {State Reason : Type 0} (work : LineWork State Reason) (start state : State)
    (held held' : Option (List ℕ)) (bytes left : List ℕ) : Type 0 where
  pub read : IsRead bytes left
  pub state_is : state ≡ after_all work start (pieces bytes)
  pub written : Appends held held' (replies work start (pieces bytes))
  pub accepted : AcceptsLines (output_by work start) bytes

-- a line was met: this is the reply to it, and this is known after it; or the job stopped there
pub record Met {State Reason Failure : Type 0} (work : LineWork State Reason) (before now : State)
    (made : Result (Unit {0}) (Stop Reason Failure)) (reply : List ℕ) (line : Line) : Type 0 where
  pub said : OnOk made (reply ≡ work.reply before line)
  pub after : OnOk made (now ≡ work.after before line)
  pub accepted : OnOk made (Accepts work before line)
  pub refused : IfErr made (RefusedFor (work.Refuses before line))

-- the next line was met, and it is this one; or the input is at its end
abbrev pub Replies : {State Reason Failure : Type 0} → LineWork State Reason → State → State → Bool
    → Option (Result (Unit {0}) (Stop Reason Failure)) → List ℕ → Line → List ℕ → List ℕ → Type 0
Replies work before now ended None reply next text rest = (text ≡ []) × (rest ≡ []) × (now ≡ before)
Replies work before now ended (Some made) reply next text rest =
    (line : List ℕ) × IsFirstLine ended line text rest × Met work before now made reply (met line) × (next ≡ met line)

-- what else the job did with the next line; nothing at the end
abbrev pub DidNext : {Job Reason Failure : Type 0} → Deeds Job → Job → Job →
    Option (Result (Unit {0}) (Stop Reason Failure)) → Line → Type 0
DidNext Did job job' None next = job' ≡ job
DidNext Did job job' (Some made) next = Meets Did job job' next (is_ok made)

-- the next line was met, whether or not the source's bytes are known; at the end nothing changed
abbrev pub MetNext : {State Reason Failure : Type 0} → LineWork State Reason → State → State
    → Option (Result (Unit {0}) (Stop Reason Failure)) → List ℕ → Line → Type 0
MetNext work before now None reply next = now ≡ before
MetNext work before now (Some made) reply next = Met work before now made reply next

-- one more line is read and replied to, or the end is seen
pub record IsNext {State Reason Failure Job : Type 0} (work : LineWork State Reason) (Did : Deeds Job) (job job' : Job)
    (before now : Moment State) (made : Option (Result (Unit {0}) (Stop Reason Failure))) (reply : List ℕ)
    : Type 0 where
  pub next : Line
  pub replies : Between (Replies work before.state now.state now.lines.ended made reply next)
      (ahead before.lines before.left) (ahead now.lines now.left)
  pub met : MetNext work before.state now.state made reply next
  pub did : DidNext Did job job' made next
  pub gives : OnSome made (given before.lines < given now.lines)
  pub moves : Moves before now
  pub ended : IfNone made (IsTrue now.lines.ended)

-- what was written where a fault ended the job
abbrev pub Leaves : {Reason Failure : Type 0} → Output Reason → Option (List ℕ) → Option (List ℕ)
    → JobFault Reason Failure → List ℕ → List ℕ → Type 0
Leaves output held held' Read bytes left = WritesTaken output held held' bytes left
Leaves output held held' TooMuch bytes left = WritesTakenAndMore output held held' bytes left
Leaves output held held' Write bytes left = LeavesPart output held held' bytes left
Leaves output held held' Memory bytes left = LeavesPart output held held' bytes left
Leaves output held held' (Failed failure) bytes left = LeavesPart output held held' bytes left
Leaves output held held' (Refused reason) bytes left = IsRefused output reason held held' bytes left
