-- How a job ended, by how its lines ended; and what that means where nothing fails.
use Rattle.std.proofs.Common.{ℕ, ◌≡◌, ◌≤◌, List, refl, arith, length}
use Rattle.std.specs.Prelude.{Option, Some, None, Result, Ok, Err, IfErr, OnOk}
use Rattle.pol_io.specs.Causes.{HasCauseOf}
use Rattle.pol_io.specs.Edge.{Edge}
use Rattle.pol_io.specs.Known.{Between}
use Rattle.pol_io.proofs.Known.{between_weaker}
use Rattle.pol_io.specs.declared.limits.TheConstants.{LONGEST_INPUT}
use Rattle.pol_jobs.specs.Ends.{Completes, Ends, IsRefused, IsTooMuch, Writes, refused_input, refused_line}
use Rattle.pol_jobs.specs.LineWork.{Output, AcceptsAll}
use Rattle.pol_jobs.specs.Moments.{Leaves}
use Rattle.pol_jobs.specs.declared.fault.JobFault.{JobFault}
use Rattle.pol_jobs.specs.declared.fault.JobFault.TheVariants.{Read, Write, Memory, TooMuch, Failed, Refused}
use Rattle.pol_jobs.proofs.Accepting.{not_accepted}

-- what is refused isn't accepted
refused_not : {Reason : Type 0} (output : Output Reason) (sink sink' : Edge) (reason : Reason) (bytes left : List ℕ) →
    IsRefused output reason sink.bytes sink'.bytes bytes left →
    ¬ AcceptsAll output bytes
refused_not output sink sink' reason bytes left (refused_line line) accepted =
    not_accepted output bytes line.done line.piece _ reason line.is_line line.refuses accepted.0
refused_not output sink sink' reason bytes left (refused_input input) accepted = accepted.1 reason input.refuses

module _ {Reason Failure : Type 0} (output : Output Reason) (source source' sink sink' : Edge) where
  -- what is known of the lines is known of the job
  pub work_ends : (result : Result (Unit {0}) (JobFault Reason Failure)) →
      OnOk result (Between (Writes output sink.bytes sink'.bytes) source.bytes source'.bytes) →
      IfErr result (λ fault. Between (Leaves output sink.bytes sink'.bytes fault) source.bytes source'.bytes) →
      IfErr result (λ fault. fault ≡ TooMuch → IsTooMuch source.bytes) →
      HasCauseOf Read source.faults source'.faults result → HasCauseOf Write sink.faults sink'.faults result →
      Ends output source source' sink sink' result
  work_ends (Ok done) writes leaves much read wrote = (writes, read.done, wrote.done)
  work_ends (Err Read) writes leaves much read wrote = (leaves, read.failed refl, wrote.other (λ same. cc))
  work_ends (Err Write) writes leaves much read wrote = (leaves, read.other (λ same. cc), wrote.failed refl)
  work_ends (Err Memory) writes leaves much read wrote =
      (leaves, read.other (λ same. cc), wrote.other (λ same. cc))
  work_ends (Err TooMuch) writes leaves much read wrote =
      (leaves, read.other (λ same. cc), wrote.other (λ same. cc), much refl)
  work_ends (Err (Failed failure)) writes leaves much read wrote =
      (leaves, read.other (λ same. cc), wrote.other (λ same. cc))
  work_ends (Err (Refused reason)) writes leaves much read wrote =
      (leaves, read.other (λ same. cc), wrote.other (λ same. cc))

  -- with no fault of source or sink, and an input that fits, the result is the one that is due
  pub completes : (result : Result (Unit {0}) (JobFault Reason Failure)) →
      Ends output source source' sink sink' result →
      Completes output source source' sink sink' result
  completes (Ok done) ends unread unwritten =
      between_weaker _ _ source.bytes source'.bytes (λ bytes left writes fits. writes.accepted) ends.0
  completes (Err Read) ends unread unwritten = absurd (unread ends.1)
  completes (Err Write) ends unread unwritten = absurd (unwritten ends.2)
  completes (Err Memory) ends unread unwritten =
      between_weaker _ _ source.bytes source'.bytes (λ bytes left leaves fits. tt) ends.0
  completes (Err (Failed failure)) ends unread unwritten =
      between_weaker _ _ source.bytes source'.bytes (λ bytes left leaves fits. tt) ends.0
  completes (Err TooMuch) ends unread unwritten = too_long _ source.bytes source'.bytes ends.0 ends.3
    where
      too_long : (P : List ℕ → List ℕ → Type 0) (begin left : Option (List ℕ)) → Between P begin left →
          IsTooMuch begin → Between (λ bytes left. length bytes ≤ LONGEST_INPUT → ⊥) begin left
      too_long P None left known much = tt
      too_long P (Some bytes) None known much = absurd known
      too_long P (Some bytes) (Some left) known much = λ fits. omega arith
  completes (Err (Refused reason)) ends unread unwritten =
      between_weaker _ _ source.bytes source'.bytes (λ bytes left refused fits.
      refused_not output sink sink' reason bytes left
      refused)
      ends.0
