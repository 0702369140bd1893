-- How the job on an operated plant ended, by its result.
use Rattle.std.proofs.Common.{ℕ, ◌≡◌, List, ap₂, refl, subst, inl, inr}
use Rattle.std.specs.Prelude.{Option, Some, IfSome, Result, Ok, Err, IfErr, OnOk}
use Rattle.std.specs.Io.KnownBytes.{Keeps}
use Rattle.mtp_json.specs.declared.fault.FaultKind.{FaultKind}
use Rattle.mtp_json.specs.declared.fault.JsonFault.{JsonFault}
use Rattle.mtp_json.specs.declared.path.PathPart.{PathPart}
use Rattle.pol_disk.specs.Disks.{told_through}
use Rattle.pol_io.specs.Edge.{Edge}
use Rattle.pol_io.specs.Known.{Between}
use Rattle.pol_kept.specs.Opens.{IsNoStore}
use Rattle.pol_ledger.specs.Opens.{begun_anyway}
use Rattle.pol_ledger.specs.Work.{ledger_work}
use Rattle.pol_operate.specs.Ends.{IsUnopened, OperateEnds, StandsForNoItems}
use Rattle.pol_operate.specs.declared.fault.OperateFault.{OperateFault}
use Rattle.pol_operate.specs.declared.fault.OperateFault.TheVariants as operated
use Rattle.pol_cli.specs.Keeping.{DiskFailed}
use Rattle.pol_cli.specs.Operating.{HasNoPolicy, IsNotOpened}
use Rattle.pol_cli.specs.Statuses.{status_of_operated}
use Rattle.pol_cli.specs.Tasks.{OperatedEnds}
use Rattle.pol_cli.specs.Worked.{Disks, Edges}
use Rattle.pol_cli.specs.declared.status.Status.TheVariants as status
use Rattle.pol_cli.proofs.Unsaid.{between_unsaid}

-- all was done
good_result : (result : Result (Unit {0}) OperateFault) → status_of_operated result ≡ status.Good → result ≡ Ok tt
good_result (Ok done) is = refl
good_result (Err operated.Read) is = cc
good_result (Err operated.Write) is = cc
good_result (Err operated.Memory) is = cc
good_result (Err operated.TooMuch) is = cc
good_result (Err operated.Disk) is = cc
good_result (Err (operated.NotALedger place)) is = cc
good_result (Err (operated.BadPolicy fault)) is = cc

-- the disk failed
disk_result : (result : Result (Unit {0}) OperateFault) → status_of_operated result ≡ status.DiskFault →
    result ≡ Err operated.Disk
disk_result (Ok done) is = cc
disk_result (Err operated.Read) is = cc
disk_result (Err operated.Write) is = cc
disk_result (Err operated.Memory) is = cc
disk_result (Err operated.TooMuch) is = cc
disk_result (Err operated.Disk) is = refl
disk_result (Err (operated.NotALedger place)) is = cc
disk_result (Err (operated.BadPolicy fault)) is = cc

-- the disk is no ledger
no_ledger_result : (result : Result (Unit {0}) OperateFault) (place : ℕ) →
    status_of_operated result ≡ status.NotALedger place → result ≡ Err (operated.NotALedger place)
no_ledger_result (Ok done) place is = cc
no_ledger_result (Err operated.Read) place is = cc
no_ledger_result (Err operated.Write) place is = cc
no_ledger_result (Err operated.Memory) place is = cc
no_ledger_result (Err operated.TooMuch) place is = cc
no_ledger_result (Err operated.Disk) place is = cc
no_ledger_result (Err (operated.NotALedger other)) place is = cc
no_ledger_result (Err (operated.BadPolicy fault)) place is = cc

-- what holds where all was done holds on that status
pub on_good : (P : Type 0) (result : Result (Unit {0}) OperateFault) → OnOk result P →
    status_of_operated result ≡ status.Good → P
on_good P result holds is = subst (λ result. OnOk result P) (good_result result is) holds

-- what holds where the disk failed holds on that status
on_disk_fault : (P : Type 0) (result : Result (Unit {0}) OperateFault) →
    IfErr result (λ fault. fault ≡ operated.Disk → P) → status_of_operated result ≡ status.DiskFault → P
on_disk_fault P result holds is =
    subst (λ result. IfErr result (λ fault. fault ≡ operated.Disk → P)) (disk_result result is) holds refl

-- what holds where the disk is no ledger holds on that status
on_no_ledger : (P : ℕ → Type 0) (result : Result (Unit {0}) OperateFault) (place : ℕ) →
    IfErr result (λ fault. (place : ℕ) → fault ≡ operated.NotALedger place → P place) →
    status_of_operated result ≡ status.NotALedger place → P place
on_no_ledger P result place holds is =
    subst (λ result. IfErr result (λ fault. (place : ℕ) → fault ≡ operated.NotALedger place → P place))
    (no_ledger_result result place is) holds place refl

-- two statuses of bad policies tell the same
same_refusal : (path other : List PathPart) (fault kind : FaultKind) →
    status.BadPolicy path fault ≡ status.BadPolicy other kind → (fault ≡ kind) × (path ≡ other)
same_refusal path other fault kind is = (cc, cc)

-- the input has no policy
no_policy_result : (result : Result (Unit {0}) OperateFault) (path : List PathPart) (fault : FaultKind) →
    status_of_operated result ≡ status.BadPolicy path fault →
    result ≡ Err (operated.BadPolicy (record { kind = fault; path = path }))
no_policy_result (Ok done) path fault is = cc
no_policy_result (Err operated.Read) path fault is = cc
no_policy_result (Err operated.Write) path fault is = cc
no_policy_result (Err operated.Memory) path fault is = cc
no_policy_result (Err operated.TooMuch) path fault is = cc
no_policy_result (Err operated.Disk) path fault is = cc
no_policy_result (Err (operated.NotALedger place)) path fault is = cc
no_policy_result (Err (operated.BadPolicy reason)) path fault is =
    let parts = same_refusal reason.path path reason.kind fault is in
    ap₂ (λ (kind : FaultKind) (path : List PathPart). Err (operated.BadPolicy (record { kind = kind; path = path })))
    parts.0 parts.1

-- for the fault that is told
unsaid : (seen : Option (List ℕ)) (source source' sink sink' : Edge) (result : Result (Unit {0}) OperateFault) →
    OperateEnds seen source source' sink sink' result → (path : List PathPart) (fault : FaultKind) →
    status_of_operated result ≡ status.BadPolicy path fault →
    Between (λ bytes left. HasNoPolicy (record { kind = fault; path = path }) bytes) source.bytes source'.bytes
unsaid seen source source' sink sink' result ends path fault is =
    let row = subst (OperateEnds seen source source' sink sink') (no_policy_result result path fault is) ends in
    between_unsaid (begun_anyway row.found) (record { kind = fault; path = path }) sink.bytes sink'.bytes
    source.bytes source'.bytes row.ends.0

-- what holds where the policy was refused holds on that status
on_bad_policy : (P : Type 0) (result : Result (Unit {0}) OperateFault) (path : List PathPart) (fault : FaultKind) →
    IfErr result (λ fault. (reason : JsonFault) → fault ≡ operated.BadPolicy reason → P) →
    status_of_operated result ≡ status.BadPolicy path fault → P
on_bad_policy P result path fault holds is =
    subst (λ result. IfErr result (λ fault. (reason : JsonFault) → fault ≡ operated.BadPolicy reason → P))
    (no_policy_result result path fault is) holds (record { kind = fault; path = path }) refl

-- a job whose disk wasn't opened wasn't begun
not_opened : (result : Result (Unit {0}) OperateFault) → IsUnopened result → IsNotOpened (status_of_operated result)
not_opened (Ok done) none = absurd none
not_opened (Err operated.Read) none = absurd none
not_opened (Err operated.Write) none = absurd none
not_opened (Err operated.Memory) none = inr refl
not_opened (Err operated.TooMuch) none = absurd none
not_opened (Err operated.Disk) none = absurd none
not_opened (Err (operated.NotALedger place)) none = inl (place, refl)
not_opened (Err (operated.BadPolicy fault)) none = absurd none

-- what is known of the result is known of its status
pub operated_ends : {D : Type 0} (source sink : Edges) (ledger : Disks D) (result : Result (Unit {0}) OperateFault) →
    OperateEnds (told_through (ledger.tells.bytes ledger.before) (ledger.tells.bytes ledger.after))
    source.before source.after sink.before sink.after result →
    ((all later : List ℕ) → ledger.tells.bytes ledger.before ≡ Some all →
    ledger.tells.bytes ledger.after ≡ Some later → StandsForNoItems all → ¬ DiskFailed ledger → IsUnopened result) →
    IfErr result (λ fault. fault ≡ operated.Disk → DiskFailed ledger) →
    IfErr result (λ fault. (place : ℕ) → fault ≡ operated.NotALedger place →
    (ledger.tells.faults ledger.after ≡ ledger.tells.faults ledger.before)
    × IfSome (ledger.tells.bytes ledger.after) (λ all. IsNoStore ledger_work all place)) →
    IfErr result (λ fault. (place : ℕ) → fault ≡ operated.NotALedger place → source.Untouched × sink.Untouched) →
    IfErr result (λ fault. (reason : JsonFault) → fault ≡ operated.BadPolicy reason →
    Keeps sink.before.bytes sink.after.bytes) →
    OperatedEnds source sink ledger (status_of_operated result)
operated_ends source sink ledger result ends unopened cause no_ledger untouched unwritten = record {
  result = result;
  told = refl;
  ends = ends;
  begins = λ all later told still none well. not_opened result (unopened all later told still none well);
  unsaid = unsaid _ source.before source.after sink.before sink.after result ends;
  unwritten = λ path fault. on_bad_policy _ result path fault unwritten;
  disk_cause = on_disk_fault _ result cause;
  no_ledger = λ place. on_no_ledger _ result place no_ledger;
  untouched = λ place. on_no_ledger (λ place. source.Untouched × sink.Untouched) result place untouched;
}
