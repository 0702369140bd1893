-- How the job on an operated plant ends.
use Rattle.std.specs.Prelude.{ℕ, ◌≡◌, ◌⊎◌, List, Option, IfSome, Result, Ok, Err}
use Rattle.mtp_json.specs.declared.fault.JsonFault.{JsonFault}
use Rattle.pol_history.specs.Runs.{IsLegal, IsOrderly}
use Rattle.pol_io.specs.Edge.{Edge}
use Rattle.pol_jobs.specs.Ends.{Completes, Ends}
use Rattle.pol_jobs.specs.declared.fault.JobFault.{JobFault}
use Rattle.pol_jobs.specs.declared.fault.JobFault.TheVariants as job
use Rattle.pol_kept.specs.Stands.{StandsFor}
use Rattle.pol_kept.specs.declared.opening.OpenFault.{OpenFault}
use Rattle.pol_kept.specs.declared.opening.OpenFault.TheVariants as opening
use Rattle.pol_ledger.specs.Items.{PlainItem}
use Rattle.pol_ledger.specs.Opens.{begun_anyway}
use Rattle.pol_ledger.specs.Work.{BegunLedger, items_of, ledger_work}
use Rattle.pol_operate.specs.Kept.{known_behind, operated}
use Rattle.pol_operate.specs.Texts.{history_in}
use Rattle.pol_operate.specs.declared.fault.DiskFailed.{DiskFailed}
use Rattle.pol_operate.specs.declared.fault.OperateFault.{OperateFault}
use Rattle.pol_operate.specs.declared.fault.OperateFault.TheVariants.{Read, Write, Memory, TooMuch, Disk, NotALedger}
use Rattle.pol_operate.specs.declared.fault.OperateFault.TheVariants.{BadPolicy}

-- the disk failed
abbrev pub disk_failed : DiskFailed
disk_failed = record {}

-- the result of a job over lines that ended so
abbrev pub job_result : Result (Unit {0}) OperateFault → Result (Unit {0}) (JobFault JsonFault DiskFailed)
job_result (Ok done) = Ok done
job_result (Err Read) = Err job.Read
job_result (Err Write) = Err job.Write
job_result (Err Memory) = Err job.Memory
job_result (Err TooMuch) = Err job.TooMuch
job_result (Err Disk) = Err (job.Failed disk_failed)
job_result (Err (NotALedger place)) = Err job.Memory
job_result (Err (BadPolicy fault)) = Err (job.Refused fault)

-- the fault of a job whose disk wasn't opened for this one
abbrev pub IsFaultOf : OpenFault → OperateFault → Type 0
IsFaultOf opening.Memory fault = fault ≡ Memory
IsFaultOf opening.Disk fault = fault ≡ Disk
IsFaultOf (opening.NotAStore place) fault = fault ≡ NotALedger place

-- The disk stood for a ledger, or for none, and the job ended as one on the ledger that opening makes of it. The
-- history behind any lines is legal and orderly, so that all that is proved of such histories holds of it.
pub record Operates (seen : Option (List ℕ)) (source source' sink sink' : Edge)
    (result : Result (Unit {0}) (JobFault JsonFault DiskFailed)) : Type 0 where
  pub found : Option BegunLedger
  pub stood : IfSome seen (StandsFor ledger_work (items_of found))
  pub runs : (lines : List (List ℕ)) → IsLegal (history_in (known_behind (begun_anyway found) lines).ledger)
      × IsOrderly (history_in (known_behind (begun_anyway found) lines).ledger)
  pub ends : Ends (operated (begun_anyway found)) source source' sink sink' result
  pub complete : Completes (operated (begun_anyway found)) source source' sink sink' result

-- nothing was read or written
abbrev pub IsUntouched : Edge → Edge → Edge → Edge → Type 0
IsUntouched source source' sink sink' = (source' ≡ source) × (sink' ≡ sink)

-- How the job ended on a disk that read as these bytes, by its source and its sink before and after.
abbrev pub OperateEnds : Option (List ℕ) → Edge → Edge → Edge → Edge → Result (Unit {0}) OperateFault → Type 0
OperateEnds seen source source' sink sink' (Ok done) = Operates seen source source' sink sink' (Ok done)
OperateEnds seen source source' sink sink' (Err Read) = Operates seen source source' sink sink' (Err job.Read)
OperateEnds seen source source' sink sink' (Err Write) = Operates seen source source' sink sink' (Err job.Write)
OperateEnds seen source source' sink sink' (Err Memory) =
    IsUntouched source source' sink sink' ⊎ Operates seen source source' sink sink' (Err job.Memory)
OperateEnds seen source source' sink sink' (Err TooMuch) = Operates seen source source' sink sink' (Err job.TooMuch)
OperateEnds seen source source' sink sink' (Err Disk) =
    IsUntouched source source' sink sink' ⊎ Operates seen source source' sink sink' (Err (job.Failed disk_failed))
OperateEnds seen source source' sink sink' (Err (NotALedger place)) = IsUntouched source source' sink sink'
OperateEnds seen source source' sink sink' (Err (BadPolicy fault)) =
    Operates seen source source' sink sink' (Err (job.Refused fault))

-- no items stand for the bytes
abbrev pub StandsForNoItems : List ℕ → Type 0
StandsForNoItems bytes = (items : List PlainItem) → StandsFor ledger_work items bytes → ⊥

-- the job ended since the disk is no ledger, or since there was no memory
abbrev pub IsUnopened : Result (Unit {0}) OperateFault → Type 0
IsUnopened (Ok done) = ⊥
IsUnopened (Err Memory) = Unit {0}
IsUnopened (Err (NotALedger place)) = Unit {0}
IsUnopened (Err _) = ⊥
