-- Why a job stops: the fault that each cause makes.
use Rattle.std.specs.Prelude.{⊤}
use Rattle.pol_io.specs.declared.lines.IoFault.{IoFault}
use Rattle.pol_io.specs.declared.lines.IoFault.TheVariants as io_fault
use Rattle.pol_jobs.specs.declared.fault.JobFault.{JobFault}
use Rattle.pol_jobs.specs.declared.fault.JobFault.TheVariants.{Read, Write, Memory, TooMuch, Failed, Refused}
use Rattle.pol_jobs.specs.declared.output.PutFault.{PutFault}
use Rattle.pol_jobs.specs.declared.output.PutFault.TheVariants as put_fault
use Rattle.pol_jobs.specs.declared.stop.Stop.{Stop}
use Rattle.pol_jobs.specs.declared.stop.Stop.TheVariants as stop

-- the fault of a job whose lines have this fault
abbrev pub of_lines : {Reason Failure : Type 0} → IoFault → JobFault Reason Failure
of_lines io_fault.Read = Read
of_lines io_fault.TooMuch = TooMuch

-- the fault of a job whose output has this fault
abbrev pub of_output : {Reason Failure : Type 0} → PutFault → JobFault Reason Failure
of_output put_fault.Write = Write
of_output put_fault.Memory = Memory

-- the fault of a job that stopped for this cause
abbrev pub of_stop : {Reason Failure : Type 0} → Stop Reason Failure → JobFault Reason Failure
of_stop stop.Memory = Memory
of_stop (stop.Failed failure) = Failed failure
of_stop (stop.Refused reason) = Refused reason

-- where a job stopped because it refuses its input, this holds of the reason
abbrev pub RefusedFor : {Reason Failure : Type 0} → (Reason → Type 0) → Stop Reason Failure → Type 0
RefusedFor Has stop.Memory = ⊤
RefusedFor Has (stop.Failed failure) = ⊤
RefusedFor Has (stop.Refused reason) = Has reason

-- where a job stopped because what it works with failed, this holds
abbrev pub FailedSo : {Reason Failure : Type 0} → Type 0 → Stop Reason Failure → Type 0
FailedSo So stop.Memory = ⊤
FailedSo So (stop.Failed failure) = So
FailedSo So (stop.Refused reason) = ⊤

-- where a job ended because what it works with failed, this holds
abbrev pub JobFailedSo : {Reason Failure : Type 0} → Type 0 → JobFault Reason Failure → Type 0
JobFailedSo So (Failed failure) = So
JobFailedSo So _ = ⊤

-- where a job ended because it refused its input, this holds of the reason
abbrev pub JobRefusedSo : {Reason Failure : Type 0} → (Reason → Type 0) → JobFault Reason Failure → Type 0
JobRefusedSo So (Refused reason) = So reason
JobRefusedSo So _ = ⊤

-- a fault of settling lines and writing the replies to them; where what the job works with failed, this holds
abbrev pub IsOfPutting : {Reason Failure : Type 0} → Type 0 → JobFault Reason Failure → Type 0
IsOfPutting So Write = ⊤
IsOfPutting So Memory = ⊤
IsOfPutting So (Failed failure) = So
IsOfPutting So _ = ⊥
