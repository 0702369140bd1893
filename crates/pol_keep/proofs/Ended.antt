-- How the job on a kept plant ended.
use Rattle.std.proofs.Common.{ℕ, ◌≡◌, ◌≢◌, ◌⊎◌, inl, inr, List, Option, arith, append-nil, refl, subst, sym}
use Rattle.std.specs.Prelude.{IfErr, IfSome, OnOk, Result, Ok, Err}
use Rattle.std.specs.declared.convert.Infallible.{Infallible}
use Rattle.kept_jobs.specs.Leaving.{ReadsAs}
use Rattle.kept_jobs.specs.Telling.{Telling}
use Rattle.kept_jobs.proofs.Ended.{IsBegun, left_plain}
use Rattle.pol_disk.specs.Disks.{LeavesOnly}
use Rattle.pol_events.specs.Events.{PlainEvent}
use Rattle.pol_history.specs.Looking.{History}
use Rattle.pol_history.specs.Runs.{IsLegal, IsOrderly, events_of}
use Rattle.pol_io.specs.Edge.{Edge}
use Rattle.pol_jobs.specs.Ends.{Ends}
use Rattle.pol_jobs.specs.Faults.{JobFailedSo}
use Rattle.pol_jobs.specs.LineWork.{Output}
use Rattle.pol_jobs.specs.declared.fault.JobFault.{JobFault}
use Rattle.pol_jobs.proofs.Ending.{completes}
use Rattle.pol_kept.specs.declared.opening.OpenFault.{OpenFault}
use Rattle.pol_kept.specs.declared.opening.OpenFault.TheVariants as opening
use Rattle.pol_store.specs.Lawful.{length-events, plants_are_lawful}
use Rattle.pol_store.specs.Opens.{IsLeftOf}
use Rattle.pol_store.specs.Stands.{StandsFor}
use Rattle.pol_store.specs.Work.{plant_work}
use Rattle.pol_store.proofs.Histories.{legal_few}
use Rattle.pol_keep.specs.Keeping.{plant_job}
use Rattle.pol_keep.specs.Kept.{IsFaultOf, IsUnopened, KeepEnds, Keeps, job_result}
use Rattle.pol_keep.specs.declared.fault.DiskFailed.{DiskFailed}
use Rattle.pol_keep.specs.declared.fault.KeepFault.{KeepFault}
use Rattle.pol_keep.specs.declared.fault.KeepFault.TheVariants.{Read, Write, Memory, TooMuch, Disk, NotAStore}
use Rattle.pol_keep.proofs.Orderly.{sound_run}

-- a job that is done is done over its lines too
pub when_done : (P : Type 0) (result : Result (Unit {0}) KeepFault)
    (done : Result (Unit {0}) (JobFault Infallible DiskFailed)) → job_result result ≡ done → OnOk done P →
    OnOk result P
when_done P (Ok all) done is known = subst (λ done. OnOk done P) (sym is) known
when_done P (Err fault) done is known = tt

-- a job whose disk failed, failed over its lines too
pub when_disk : (Closed P : Type 0) → (Closed → P) → (result : Result (Unit {0}) KeepFault)
    (done : Result (Unit {0}) (JobFault Infallible DiskFailed)) → job_result result ≡ done →
    IfErr done (JobFailedSo Closed) → IfErr result (λ fault. fault ≡ Disk → P)
when_disk Closed P holds (Ok all) done is known = tt
when_disk Closed P holds (Err Read) done is known = λ same. cc
when_disk Closed P holds (Err Write) done is known = λ same. cc
when_disk Closed P holds (Err Memory) done is known = λ same. cc
when_disk Closed P holds (Err TooMuch) done is known = λ same. cc
when_disk Closed P holds (Err Disk) done is known =
    λ same. holds (subst (λ done. IfErr done (JobFailedSo Closed)) (sym is) known)
when_disk Closed P holds (Err (NotAStore place)) done is known = λ same. cc

-- what holds anyway holds where it is done
pub on_ok_holds : {P E : Type 0} (result : Result (Unit {0}) E) → P → OnOk result P
on_ok_holds (Ok done) holds = holds
on_ok_holds (Err fault) holds = tt

-- the disk stood for the events of a legal history, and the job ended so
pub keeps : (output : List PlainEvent → Output Infallible) (seen : Option (List ℕ)) (source source' sink sink' : Edge)
    (result : Result (Unit {0}) (JobFault Infallible DiskFailed)) (history : History) → IsLegal history →
    IsOrderly history → IfSome seen (StandsFor (events_of history)) →
    Ends (output (events_of history)) source source' sink sink' result →
    Keeps output seen source source' sink sink' result
keeps output seen source source' sink sink' result history legal orderly stood ends = record {
  old = events_of history;
  few = omega (arith, length-events history, legal_few history legal);
  stood = stood;
  runs = sound_run history legal orderly;
  ends = ends;
  complete = completes (output (events_of history)) source source' sink sink' result ends;
}

-- by its result
pub keep_ends : (output : List PlainEvent → Output Infallible) (seen : Option (List ℕ))
    (source source' sink sink' : Edge) (result : Result (Unit {0}) KeepFault) →
    IfErr result (λ fault. (place : ℕ) → fault ≢ NotAStore place) →
    Keeps output seen source source' sink sink' (job_result result) →
    KeepEnds output seen source source' sink sink' result
keep_ends output seen source source' sink sink' (Ok done) store keeps = keeps
keep_ends output seen source source' sink sink' (Err Read) store keeps = keeps
keep_ends output seen source source' sink sink' (Err Write) store keeps = keeps
keep_ends output seen source source' sink sink' (Err Memory) store keeps = inr keeps
keep_ends output seen source source' sink sink' (Err TooMuch) store keeps = keeps
keep_ends output seen source source' sink sink' (Err Disk) store keeps = inr keeps
keep_ends output seen source source' sink sink' (Err (NotAStore place)) store keeps = absurd (store place refl)

-- where no call of the disk failed, a disk that couldn't be opened is no store, or there was no memory
pub unopened_is : (fault : OpenFault) (told : KeepFault) → IsFaultOf fault told → (fault ≡ opening.Disk → ⊥) →
    IsUnopened (Err told)
unopened_is opening.Memory told is well = rw is tt
unopened_is opening.Disk told is well = absurd (well refl)
unopened_is (opening.NotAStore place) told is well = rw is tt

module _ {D : Type 0} (disk : Telling D) (first : D) (old : List PlainEvent) where
  -- an image that stands for the old events stands for them with those of no line
  begun : (image : List ℕ) → disk.images first image ⊎ StandsFor old image →
      IsBegun plant_work disk plant_job first old image
  begun image (inl before) = inl before
  begun image (inr stands) =
      inr (subst (λ (events : List PlainEvent). StandsFor events image) (sym (append-nil old)) stands)

  -- so what opening leaves is of before a line is met
  pub left_begun : (reads : ReadsAs plant_work disk first old) (mid : D) →
      LeavesOnly disk.moment disk.left_since first mid (IsLeftOf reads.bytes (disk.images first)) →
      LeavesOnly disk.moment disk.left_since first mid (IsBegun plant_work disk plant_job first old)
  left_begun reads mid left =
      left_plain plant_work disk plants_are_lawful first mid old reads
      (IsBegun plant_work disk plant_job first old) begun left
