-- An input that is refused for want of a policy left nothing written.
use Rattle.std.proofs.Common.{◌≡◌, ◌⊎◌, inl, inr, ℕ, List, [], Option, Some, None, refl, subst, sym}
use Rattle.std.specs.Io.KnownBytes.{Keeps}
use Rattle.std.specs.Prelude.{IfErr, Result, Ok, Err}
use Rattle.mtp_json.specs.declared.fault.JsonFault.{JsonFault}
use Rattle.pol_jobs.specs.Deeds.{RefusesBehind}
use Rattle.pol_jobs.specs.Faults.{JobRefusedSo}
use Rattle.pol_jobs.specs.LineWork.{Line}
use Rattle.pol_jobs.specs.declared.fault.JobFault.{JobFault}
use Rattle.pol_kept.specs.declared.opening.OpenFault.{OpenFault}
use Rattle.pol_kept.specs.declared.opening.OpenFault.TheVariants as opening
use Rattle.pol_replay.proofs.Silent.{unwritten as unwritten_waiting}
use Rattle.pol_rights.specs.Rules.{PlainPlantPolicy}
use Rattle.pol_ledger.specs.Work.{BegunLedger}
use Rattle.pol_operate.specs.Ends.{IsFaultOf, job_result}
use Rattle.pol_operate.specs.Kept.{first_known}
use Rattle.pol_operate.specs.Work.{Known, RefusesBy, RefusesEndBy, operate_work, policy_by, reply_by}
use Rattle.pol_operate.specs.declared.fault.DiskFailed.{DiskFailed}
use Rattle.pol_operate.specs.declared.fault.OperateFault.{OperateFault}
use Rattle.pol_operate.specs.declared.fault.OperateFault.TheVariants.{Read, Write, Memory, TooMuch, Disk, NotALedger}
use Rattle.pol_operate.specs.declared.fault.OperateFault.TheVariants.{BadPolicy}

-- no policy is known
abbrev IsUnsaid : Known → Type 0
IsUnsaid known = known.policy ≡ None

-- where none is known behind a line, none was before it, and nothing is replied to it
silent : (policy : Option PlainPlantPolicy) (ledger : Option BegunLedger) (line : Line) → policy_by policy line ≡ None →
    (policy ≡ None) × (reply_by policy ledger line ≡ [])
silent None ledger line unsaid = (refl, rw unsaid refl)
silent (Some policy) ledger line unsaid = absurd cc

-- an input is refused with a line only where none is known
line_unsaid : (policy : Option PlainPlantPolicy) (line : Line) (fault : JsonFault) → RefusesBy policy line fault →
    policy ≡ None
line_unsaid None line fault refuses = refl
line_unsaid (Some policy) line fault refuses = absurd refuses

-- and so at its end
end_unsaid : (policy : Option PlainPlantPolicy) (fault : JsonFault) → RefusesEndBy policy fault → policy ≡ None
end_unsaid None fault refuses = refl
end_unsaid (Some policy) fault refuses = absurd refuses

-- an input is refused only where none is known
refusing : (known : Known) (fault : JsonFault) →
    ((line : Line) × RefusesBy known.policy line fault) ⊎ RefusesEndBy known.policy fault → IsUnsaid known
refusing known fault (inl refused) = line_unsaid known.policy refused.0 fault refused.1
refusing known fault (inr refuses) = end_unsaid known.policy fault refuses

-- so where it is refused, nothing was written
unwritten_on : (ledger : Option BegunLedger) (fault : JsonFault) (held held' : Option (List ℕ)) →
    RefusesBehind operate_work (first_known ledger) held held' fault → Keeps held held'
unwritten_on ledger fault held held' behind =
    unwritten_waiting operate_work IsUnsaid
    (record { silent = λ known line. silent known.policy known.ledger line; refusing = refusing })
    (first_known ledger) fault held held' behind

-- by how the job ended
pub unwritten : (ledger : Option BegunLedger) (held held' : Option (List ℕ)) (result : Result (Unit {0}) OperateFault)
    (done : Result (Unit {0}) (JobFault JsonFault DiskFailed)) → job_result result ≡ done →
    IfErr done (JobRefusedSo (RefusesBehind operate_work (first_known ledger) held held')) →
    IfErr result (λ fault. (reason : JsonFault) → fault ≡ BadPolicy reason → Keeps held held')
unwritten ledger held held' (Ok all) done is refused = tt
unwritten ledger held held' (Err (BadPolicy fault)) done is refused = λ reason same.
    unwritten_on ledger fault held held' (subst (λ done. IfErr done
    (JobRefusedSo (RefusesBehind operate_work (first_known ledger) held held'))) (sym is) refused)
unwritten ledger held held' (Err Read) done is refused = λ reason same. cc
unwritten ledger held held' (Err Write) done is refused = λ reason same. cc
unwritten ledger held held' (Err Memory) done is refused = λ reason same. cc
unwritten ledger held held' (Err TooMuch) done is refused = λ reason same. cc
unwritten ledger held held' (Err Disk) done is refused = λ reason same. cc
unwritten ledger held held' (Err (NotALedger place)) done is refused = λ reason same. cc

-- a job whose disk wasn't opened refused no policy
pub not_refused : (opening : OpenFault) (fault : OperateFault) (P : Type 0) → IsFaultOf opening fault →
    (reason : JsonFault) → fault ≡ BadPolicy reason → P
not_refused opening.Memory fault P is reason same = cc
not_refused opening.Disk fault P is reason same = cc
not_refused (opening.NotAStore place) fault P is reason same = cc
