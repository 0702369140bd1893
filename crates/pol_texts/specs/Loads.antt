-- How far the bytes of a disk were read.
use Rattle.std.specs.Prelude.{◌≡◌, ◌≤◌, ℕ, List, length, take, Option, IfSome}
use Rattle.pol_disk.specs.Disks.{Keeps, LeavesOnly, StillTells}

-- so many bytes of the slice, which is no longer than the disk, are filled with those of the disk, which changed
-- nothing since
pub record Loads {D : Type 0} (bytes : D → Option (List ℕ)) (images : D → List ℕ → Type 0) (moment : D → ℕ)
    (left_since : D → ℕ → List ℕ → Type 0) (faults : D → ℕ)
    (old new : D) (filled size : ℕ) (slice : List ℕ) : Type 0 where
  pub within : filled ≤ length slice
  pub long : length slice ≡ size
  pub sized : IfSome (bytes new) (λ all. size ≤ length all)
  pub read : IfSome (bytes new) (λ all. take filled slice ≡ take filled all)
  pub told : StillTells (bytes old) (bytes new)
  pub kept : Keeps (images old) (images new)
  pub moments : LeavesOnly moment left_since old new (images old)
  pub faultless : faults new ≡ faults old
