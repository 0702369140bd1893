-- How a job ended, by how its lines ended.
use Rattle.std.proofs.Common.{ℕ, ◌≡◌, List, [], Option, refl, subst, arith}
use Rattle.std.specs.Prelude.{Result, Ok, Err, IfErr}
use Rattle.std.specs.Io.KnownBytes.{Keeps}
use Rattle.std.specs.declared.convert.Infallible.{Infallible}
use Rattle.mtp_json.specs.declared.fault.FaultKind.{FaultKind}
use Rattle.mtp_json.specs.declared.fault.JsonFault.{JsonFault}
use Rattle.mtp_json.specs.declared.path.PathPart.{PathPart}
use Rattle.pol_io.specs.Causes.{HasCauseOf}
use Rattle.pol_io.specs.Edge.{Edge}
use Rattle.pol_demo.specs.Summary.{demo_output}
use Rattle.pol_guard.specs.Work.{guard_work, waiting}
use Rattle.pol_guard.proofs.Refusing.{unwritten}
use Rattle.pol_jobs.specs.Deeds.{RefusesBehind}
use Rattle.pol_jobs.specs.Ends.{Ends, IsRead, LeavesPart, stopped_closing}
use Rattle.pol_jobs.specs.Faults.{JobRefusedSo, of_output}
use Rattle.pol_jobs.specs.LineWork.{Output}
use Rattle.pol_jobs.specs.Written.{Closes, ClosesPart}
use Rattle.pol_jobs.specs.declared.fault.JobFault.{JobFault}
use Rattle.pol_jobs.specs.declared.fault.JobFault.TheVariants.{Read, Write, Memory, TooMuch, Failed, Refused}
use Rattle.pol_jobs.specs.declared.output.PutFault.{PutFault}
use Rattle.pol_jobs.specs.declared.output.PutFault.TheVariants as put_fault
use Rattle.pol_jobs.proofs.Ending.{completes}
use Rattle.pol_keep.specs.Exported.{no_input}
use Rattle.pol_cli.specs.Statuses.{refused_as, status_of}
use Rattle.pol_cli.specs.Tasks.{JobEnds, demonstrated}
use Rattle.pol_cli.specs.Worked.{Edges}
use Rattle.pol_cli.specs.declared.status.Wanted.TheVariants.{Policy}
use Rattle.pol_cli.specs.declared.status.Status.{Status}
use Rattle.pol_cli.specs.declared.status.Status.TheVariants.{BadPolicy}

-- a job whose output is the defined one ended as its lines did
unfoldable pub job_ends : {Reason : Type 0} (by output : Output Reason) (refused : Reason → Status)
    (source sink : Edges) (result : Result (Unit {0}) (JobFault Reason Infallible)) → by ≡ output →
    Ends by source.before source.after sink.before sink.after result →
    JobEnds output refused source sink (status_of refused result)
job_ends by output refused source sink result is ends =
    let ended = subst (λ output. Ends output source.before source.after sink.before sink.after result) is ends in
    record {
      result = result;
      told = refl;
      ends = ended;
      complete = completes output source.before source.after sink.before sink.after result ended;
    }

-- ---- a guard

-- where its policy is refused, nothing was written
pub guard_unwritten : (held held' : Option (List ℕ)) (result : Result (Unit {0}) (JobFault JsonFault Infallible)) →
    IfErr result (JobRefusedSo (RefusesBehind guard_work waiting held held')) → (path : List PathPart)
    (fault : FaultKind) → status_of (refused_as Policy) result ≡ BadPolicy path fault → Keeps held held'
guard_unwritten held held' (Ok done) refused path fault is = absurd cc
guard_unwritten held held' (Err Read) refused path fault is = absurd cc
guard_unwritten held held' (Err Write) refused path fault is = absurd cc
guard_unwritten held held' (Err Memory) refused path fault is = absurd cc
guard_unwritten held held' (Err TooMuch) refused path fault is = absurd cc
guard_unwritten held held' (Err (Failed never)) refused path fault is = absurd (nothing never)
  where
    nothing : Infallible → ⊥
    nothing = elim [ ]
guard_unwritten held held' (Err (Refused reason)) refused path fault is = unwritten reason held held' refused

-- ---- the demo

-- no input is read to its end
none_read : IsRead [] []
none_read = record { to_end = refl; fits = omega arith }

-- its line was written
pub demo_done : (seed : ℕ) (sink sink' : Edge) → Closes (λ text. text ≡ demo_output seed) sink.bytes sink'.bytes →
    sink'.faults ≡ sink.faults → Ends {Failure = Infallible} (demonstrated seed) no_input no_input sink sink' (Ok tt)
demo_done seed sink sink' closes well = (
  record {
    read = none_read;
    accepted = (tt, λ reason refuses. refuses);
    closing = closes.text;
    may = closes.may;
    written = closes.appended;
  },
  refl,
  well,
)

-- or a part of it
pub demo_broken : (seed : ℕ) (sink sink' : Edge) (fault : PutFault) →
    ClosesPart (λ text. text ≡ demo_output seed) sink.bytes sink'.bytes →
    HasCauseOf {T = Unit {0}} put_fault.Write sink.faults sink'.faults (Err fault) →
    Ends {Failure = Infallible} (demonstrated seed) no_input no_input sink sink' (Err (of_output fault))
demo_broken seed sink sink' fault closes wrote = by_fault fault wrote
  where
    leaves : LeavesPart (demonstrated seed) sink.bytes sink'.bytes [] []
    leaves =
        stopped_closing
        (record { read = none_read; closing = closes.text; may = closes.may; part = closes.part })

    by_fault : (fault : PutFault) →
        HasCauseOf {T = Unit {0}} put_fault.Write sink.faults sink'.faults (Err fault) →
        Ends {Failure = Infallible} (demonstrated seed) no_input no_input sink sink' (Err (of_output fault))
    by_fault put_fault.Write wrote = (leaves, refl, wrote.failed refl)
    by_fault put_fault.Memory wrote = (leaves, refl, wrote.other (λ same. cc))
