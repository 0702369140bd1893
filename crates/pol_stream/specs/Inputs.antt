-- Jobs whose input is read before they write anything.
use Rattle.std.specs.Prelude.{List, ℕ, []}
use Rattle.std.specs.declared.convert.Infallible.{Infallible}
use Rattle.pol_jobs.specs.LineWork.{Output, texts_of}
use Rattle.pol_jobs.specs.declared.fault.JobFault.{JobFault}
use Rattle.pol_jobs.specs.declared.fault.JobFault.TheVariants.{Read, Memory}
use Rattle.pol_stream.specs.declared.more.ReadFault.{ReadFault}
use Rattle.pol_stream.specs.declared.more.ReadFault.TheVariants as of_source

-- the output of a job that replies to no line, and closes with this text of its input
abbrev pub silent : (List ℕ → List ℕ) → Output Infallible
silent closing = texts_of (λ lines. []) closing

-- why a job ends whose input wasn't read because of this fault
abbrev pub fault_of : ReadFault → JobFault Infallible Infallible
fault_of of_source.Read = Read
fault_of of_source.Memory = Memory
