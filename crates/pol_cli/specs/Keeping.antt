-- What the jobs on kept items leave on their disk.
use Rattle.std.specs.Prelude.{ℕ, ◌≡◌, ◌⊎◌, List, Some}
use Rattle.kept_jobs.specs.Leaving.{HoldsAll, HoldsOn, KeepsAllLines, KeepsLines, KeptJob}
use Rattle.pol_io.specs.Causes.{Rose}
use Rattle.pol_kept.specs.Work.{ChronicleWork}
use Rattle.pol_store.specs.Stands.{StandsForNone}
use Rattle.pol_store.specs.Work.{plant_work}
use Rattle.pol_cli.specs.Worked.{Disks, Edges}
use Rattle.pol_cli.specs.declared.status.Status.{Status}
use Rattle.pol_cli.specs.declared.status.Status.TheVariants.{Good, OutOfMemory, NotAStore}

-- From one state of the disk to another the items of an input were kept behind those that it read as, whatever a crash
-- before might have left of it, and the sink took what it has now; and where all is good, those of all lines were.
pub record KeepsInput {State Item Answer D : Type 0} (work : ChronicleWork State Item Answer) (job : KeptJob Item)
    (source sink : Edges) (disk : Disks D) (status : Status) : Type 0 where
  pub lines : KeepsLines work disk.tells job disk.before disk.after source.before.bytes sink.before.bytes
      sink.after.bytes
  pub all : status ≡ Good → KeepsAllLines work disk.tells job disk.before disk.after source.before.bytes

-- From one state of the disk to another nothing happened to the events that it read as, whatever a crash before might
-- have left of it; and where all is good, each image at the end stands for them.
pub record HoldsEvents {D : Type 0} (disk : Disks D) (status : Status) : Type 0 where
  pub events : HoldsOn plant_work disk.tells disk.before disk.after
  pub all : status ≡ Good → HoldsAll plant_work disk.tells disk.before disk.after

-- the count of the disk's faults rose
abbrev pub DiskFailed : {D : Type 0} → Disks D → Type 0
DiskFailed disk = Rose (disk.tells.faults disk.before) (disk.tells.faults disk.after)

-- the status says that the disk is no store, or that there was no memory
abbrev pub IsNotBegun : Status → Type 0
IsNotBegun status = ((place : ℕ) × (status ≡ NotAStore place)) ⊎ (status ≡ OutOfMemory)

-- where the disk read as bytes that no list of events stands for, gave its bytes to the end and didn't fail, nothing
-- was begun
abbrev pub BeginsOnStores : {D : Type 0} → Disks D → Status → Type 0
BeginsOnStores disk status =
    (all later : List ℕ) → disk.tells.bytes disk.before ≡ Some all → disk.tells.bytes disk.after ≡ Some later →
    StandsForNone all → ¬ DiskFailed disk → IsNotBegun status
