-- How a job on a kept plant ended, by its result.
use Rattle.std.proofs.Common.{ℕ, ◌≡◌, List, refl, subst, inl, inr}
use Rattle.std.specs.Prelude.{Some, IfSome, Result, Ok, Err, IfErr, OnOk}
use Rattle.std.specs.declared.convert.Infallible.{Infallible}
use Rattle.pol_disk.specs.Disks.{told_through}
use Rattle.pol_events.specs.Events.{PlainEvent}
use Rattle.pol_jobs.specs.LineWork.{Output}
use Rattle.pol_keep.specs.Kept.{IsUnopened, KeepEnds}
use Rattle.pol_keep.specs.declared.fault.KeepFault.{KeepFault}
use Rattle.pol_keep.specs.declared.fault.KeepFault.TheVariants as kept
use Rattle.pol_store.specs.Opens.{IsNoStore}
use Rattle.pol_store.specs.Stands.{StandsForNone}
use Rattle.pol_cli.specs.Keeping.{DiskFailed, IsNotBegun}
use Rattle.pol_cli.specs.Statuses.{status_of_kept}
use Rattle.pol_cli.specs.Tasks.{KeptEnds}
use Rattle.pol_cli.specs.Worked.{Disks, Edges}
use Rattle.pol_cli.specs.declared.status.Status.TheVariants as status

-- all was done
good_result : (result : Result (Unit {0}) KeepFault) → status_of_kept result ≡ status.Good → result ≡ Ok tt
good_result (Ok done) is = refl
good_result (Err kept.Read) is = cc
good_result (Err kept.Write) is = cc
good_result (Err kept.Memory) is = cc
good_result (Err kept.TooMuch) is = cc
good_result (Err kept.Disk) is = cc
good_result (Err (kept.NotAStore place)) is = cc

-- the disk failed
disk_result : (result : Result (Unit {0}) KeepFault) → status_of_kept result ≡ status.DiskFault →
    result ≡ Err kept.Disk
disk_result (Ok done) is = cc
disk_result (Err kept.Read) is = cc
disk_result (Err kept.Write) is = cc
disk_result (Err kept.Memory) is = cc
disk_result (Err kept.TooMuch) is = cc
disk_result (Err kept.Disk) is = refl
disk_result (Err (kept.NotAStore place)) is = cc

-- the disk is no store
no_store_result : (result : Result (Unit {0}) KeepFault) (place : ℕ) →
    status_of_kept result ≡ status.NotAStore place → result ≡ Err (kept.NotAStore place)
no_store_result (Ok done) place is = cc
no_store_result (Err kept.Read) place is = cc
no_store_result (Err kept.Write) place is = cc
no_store_result (Err kept.Memory) place is = cc
no_store_result (Err kept.TooMuch) place is = cc
no_store_result (Err kept.Disk) place is = cc
no_store_result (Err (kept.NotAStore other)) place is = cc

-- what holds where all was done holds on that status
pub on_good : (P : Type 0) (result : Result (Unit {0}) KeepFault) → OnOk result P →
    status_of_kept result ≡ status.Good → P
on_good P result holds is = subst (λ result. OnOk result P) (good_result result is) holds

-- what holds where the disk failed holds on that status
pub on_disk_fault : (P : Type 0) (result : Result (Unit {0}) KeepFault) →
    IfErr result (λ fault. fault ≡ kept.Disk → P) → status_of_kept result ≡ status.DiskFault → P
on_disk_fault P result holds is =
    subst (λ result. IfErr result (λ fault. fault ≡ kept.Disk → P)) (disk_result result is) holds refl

-- what holds where the disk is no store holds on that status
pub on_no_store : (P : ℕ → Type 0) (result : Result (Unit {0}) KeepFault) (place : ℕ) →
    IfErr result (λ fault. (place : ℕ) → fault ≡ kept.NotAStore place → P place) →
    status_of_kept result ≡ status.NotAStore place → P place
on_no_store P result place holds is =
    subst (λ result. IfErr result (λ fault. (place : ℕ) → fault ≡ kept.NotAStore place → P place))
    (no_store_result result place is) holds place refl

-- a job whose disk wasn't opened wasn't begun
pub not_begun : (result : Result (Unit {0}) KeepFault) → IsUnopened result → IsNotBegun (status_of_kept result)
not_begun (Ok done) none = absurd none
not_begun (Err kept.Read) none = absurd none
not_begun (Err kept.Write) none = absurd none
not_begun (Err kept.Memory) none = inr refl
not_begun (Err kept.TooMuch) none = absurd none
not_begun (Err kept.Disk) none = absurd none
not_begun (Err (kept.NotAStore place)) none = inl (place, refl)

-- what is known of the result of a job on a kept plant is known of its status
pub kept_ends : {D : Type 0} (output : List PlainEvent → Output Infallible) (source sink : Edges) (disk : Disks D)
    (result : Result (Unit {0}) KeepFault) →
    KeepEnds output (told_through (disk.tells.bytes disk.before) (disk.tells.bytes disk.after))
    source.before source.after sink.before sink.after result →
    ((all later : List ℕ) → disk.tells.bytes disk.before ≡ Some all → disk.tells.bytes disk.after ≡ Some later →
    StandsForNone all → ¬ DiskFailed disk → IsUnopened result) →
    IfErr result (λ fault. fault ≡ kept.Disk → DiskFailed disk) →
    IfErr result (λ fault. (place : ℕ) → fault ≡ kept.NotAStore place →
    (disk.tells.faults disk.after ≡ disk.tells.faults disk.before)
    × IfSome (disk.tells.bytes disk.after) (λ all. IsNoStore all place)) →
    ((place : ℕ) → status_of_kept result ≡ status.NotAStore place → source.Untouched × sink.Untouched) →
    KeptEnds output source sink disk (status_of_kept result)
kept_ends output source sink disk result ends unopened cause no_store untouched = record {
  result = result;
  told = refl;
  ends = ends;
  begins = λ all later told still none well. not_begun result (unopened all later told still none well);
  disk_cause = on_disk_fault _ result cause;
  no_store = λ place. on_no_store _ result place no_store;
  untouched = untouched;
}
