-- What is known of a kind of disk.
use Rattle.std.specs.Prelude.{ℕ, ◌≡◌, List, Option, Some}

-- a kind of disk: its bytes, what a crash may leave of it, its moments, what a crash since one of them may have left,
-- and its faults
pub record Telling (D : Type 0) : Type 1 where
  pub bytes : D → Option (List ℕ)
  pub images : D → List ℕ → Type 0
  pub moment : D → ℕ
  pub left_since : D → ℕ → List ℕ → Type 0
  pub faults : D → ℕ

-- the kind of disk with these bytes, images, moments and faults
abbrev pub telling : {D : Type 0} → (D → Option (List ℕ)) → (D → List ℕ → Type 0) → (D → ℕ)
    → (D → ℕ → List ℕ → Type 0) → (D → ℕ) → Telling D
telling bytes images moment left_since faults =
    record { bytes = bytes; images = images; moment = moment; left_since = left_since; faults = faults }

-- the bytes of the disk are known: each answer so far was the one of a disk
abbrev pub Tells : {D : Type 0} → Telling D → D → Type 0
Tells disk now = (bytes : List ℕ) × (disk.bytes now ≡ Some bytes)
