-- How the job on an operated plant ended.
use Rattle.std.proofs.Common.{ℕ, ◌≡◌, ◌≢◌, inr, List, Option, refl, subst, sym}
use Rattle.std.specs.Prelude.{IfErr, OnOk, Result, Ok, Err}
use Rattle.mtp_json.specs.declared.fault.JsonFault.{JsonFault}
use Rattle.pol_io.specs.Edge.{Edge}
use Rattle.pol_jobs.specs.Ends.{Ends}
use Rattle.pol_jobs.specs.Faults.{JobFailedSo}
use Rattle.pol_jobs.specs.declared.fault.JobFault.{JobFault}
use Rattle.pol_jobs.proofs.Ending.{completes}
use Rattle.pol_kept.specs.declared.opening.OpenFault.{OpenFault}
use Rattle.pol_kept.specs.declared.opening.OpenFault.TheVariants as opening
use Rattle.pol_ledger.specs.Opens.{begun_anyway}
use Rattle.pol_ledger.specs.Work.{BegunLedger}
use Rattle.pol_operate.specs.Ends.{IsFaultOf, IsUnopened, OperateEnds, Operates, job_result}
use Rattle.pol_operate.specs.Kept.{operated}
use Rattle.pol_operate.specs.declared.fault.DiskFailed.{DiskFailed}
use Rattle.pol_operate.specs.declared.fault.OperateFault.{OperateFault}
use Rattle.pol_operate.specs.declared.fault.OperateFault.TheVariants.{Read, Write, Memory, TooMuch, Disk, NotALedger}
use Rattle.pol_operate.specs.declared.fault.OperateFault.TheVariants.{BadPolicy}
use Rattle.pol_operate.proofs.Found.{WasFound}
use Rattle.pol_operate.proofs.Orderly.{sound_runs}

-- a job that is done is done over its lines too
pub when_done : (P : Type 0) (result : Result (Unit {0}) OperateFault)
    (done : Result (Unit {0}) (JobFault JsonFault DiskFailed)) → job_result result ≡ done → OnOk done P →
    OnOk result P
when_done P (Ok all) done is known = subst (λ done. OnOk done P) (sym is) known
when_done P (Err fault) done is known = tt

-- a job whose disk failed, failed over its lines too
pub when_disk : (Closed P : Type 0) → (Closed → P) → (result : Result (Unit {0}) OperateFault)
    (done : Result (Unit {0}) (JobFault JsonFault DiskFailed)) → job_result result ≡ done →
    IfErr done (JobFailedSo Closed) → IfErr result (λ fault. fault ≡ Disk → P)
when_disk Closed P holds (Ok all) done is known = tt
when_disk Closed P holds (Err Read) done is known = λ same. cc
when_disk Closed P holds (Err Write) done is known = λ same. cc
when_disk Closed P holds (Err Memory) done is known = λ same. cc
when_disk Closed P holds (Err TooMuch) done is known = λ same. cc
when_disk Closed P holds (Err Disk) done is known =
    λ same. holds (subst (λ done. IfErr done (JobFailedSo Closed)) (sym is) known)
when_disk Closed P holds (Err (NotALedger place)) done is known = λ same. cc
when_disk Closed P holds (Err (BadPolicy fault)) done is known = λ same. cc

-- the disk was opened as a ledger, and the job ended so on it
pub operates : (seen : Option (List ℕ)) (source source' sink sink' : Edge)
    (result : Result (Unit {0}) (JobFault JsonFault DiskFailed)) (opened : Option BegunLedger) →
    WasFound seen opened → Ends (operated opened) source source' sink sink' result →
    Operates seen source source' sink sink' result
operates seen source source' sink sink' result opened was ends =
    let ended = subst (λ (ledger : Option BegunLedger). Ends (operated ledger) source source' sink sink' result) was.is
    ends in
    record {
      found = was.found;
      stood = was.stood;
      runs = sound_runs (begun_anyway was.found) was.sound;
      ends = ended;
      complete = completes (operated (begun_anyway was.found)) source source' sink sink' result ended;
    }

-- by its result
pub operate_ends : (seen : Option (List ℕ)) (source source' sink sink' : Edge)
    (result : Result (Unit {0}) OperateFault) → IfErr result (λ fault. (place : ℕ) → fault ≢ NotALedger place) →
    Operates seen source source' sink sink' (job_result result) → OperateEnds seen source source' sink sink' result
operate_ends seen source source' sink sink' (Ok done) ledger so = so
operate_ends seen source source' sink sink' (Err Read) ledger so = so
operate_ends seen source source' sink sink' (Err Write) ledger so = so
operate_ends seen source source' sink sink' (Err Memory) ledger so = inr so
operate_ends seen source source' sink sink' (Err TooMuch) ledger so = so
operate_ends seen source source' sink sink' (Err Disk) ledger so = inr so
operate_ends seen source source' sink sink' (Err (NotALedger place)) ledger so = absurd (ledger place refl)
operate_ends seen source source' sink sink' (Err (BadPolicy fault)) ledger so = so

-- where no call of the disk failed, a disk that couldn't be opened is no ledger, or there was no memory
pub unopened_is : (fault : OpenFault) (told : OperateFault) → IsFaultOf fault told → (fault ≡ opening.Disk → ⊥) →
    IsUnopened (Err told)
unopened_is opening.Memory told is well = rw is tt
unopened_is opening.Disk told is well = absurd (well refl)
unopened_is (opening.NotAStore place) told is well = rw is tt
