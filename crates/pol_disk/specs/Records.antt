-- A disk in memory: its bytes, and its calls, of which each write keeps what it wrote over.
use Rattle.std.specs.Prelude.{◌≡◌, ◌⊎◌, ◌+◌, ◌<◌, ◌≤◌, ℕ, List, [], ◌∷◌, ◌++◌, length, take, drop, slice_index, if◌then◌else◌}
use Rattle.std.proofs.Common.{inl, inr, arith}
use Rattle.pol_disk.specs.Disks.{Holds}
use Rattle.pol_disk.specs.Remains.{Range, MayRemain, is_written}

-- a call: a sync, or a write with the bytes that stood in its range before
pub data Deed : Type 0 where
  synced : Deed
  wrote : (at size : ℕ) (over : List ℕ) → Deed

-- the bytes before a call
abbrev pub undone : List ℕ → Deed → List ℕ
undone bytes synced = bytes
undone bytes (wrote at size over) = take at bytes ++ over ++ drop (at + size) bytes

-- what the last sync kept; the calls are listed newest first
abbrev pub kept_of : List ℕ → List Deed → List ℕ
kept_of bytes [] = bytes
kept_of bytes (synced ∷ deeds) = bytes
kept_of bytes (wrote at size over ∷ deeds) = kept_of (undone bytes (wrote at size over)) deeds

-- the ranges that were written since the last sync
abbrev pub ranges_of : List Deed → List Range
ranges_of [] = []
ranges_of (synced ∷ deeds) = []
ranges_of (wrote at size over ∷ deeds) = record { at = at; size = size } ∷ ranges_of deeds

-- what a crash may leave after these calls
abbrev pub IsLeft : List ℕ → List Deed → List ℕ → Type 0
IsLeft bytes deeds image = MayRemain (kept_of bytes deeds) (ranges_of deeds) image

-- what a crash at some moment might have left, since so many calls were made
abbrev pub LeftSince : List ℕ → List Deed → ℕ → List ℕ → Type 0
LeftSince bytes [] t image = (t ≤ 0) × IsLeft bytes [] image
LeftSince bytes (deed ∷ deeds) t image =
    ((t ≤ length (deed ∷ deeds)) × IsLeft bytes (deed ∷ deeds) image) ⊎ LeftSince (undone bytes deed) deeds t image

-- what contracts see of a disk in memory: its bytes, its calls, the newest first, and how often it failed
pub record DiskRecord : Type 0 where
  pub bytes : List ℕ
  pub deeds : List Deed
  pub faults : ℕ

-- each byte that was written since the last sync is the filling one, and all others are as reads give them
pub record IsFilled (fill : ℕ) (ranges : List Range) (bytes filled : List ℕ) : Type 0 where
  pub long : length filled ≡ length bytes
  pub each : (place : ℕ) → place < length bytes
      → slice_index filled place ≡ (if is_written ranges place then fill else slice_index bytes place)

-- ---- the laws of a disk

-- there was no crash after the last call
none_later : (bytes : List ℕ) (deeds : List Deed) (t : ℕ) (image : List ℕ) → length deeds < t →
    LeftSince bytes deeds t image → ⊥
none_later bytes [] t image past left = absurd (omega (arith, past, left.0))
none_later bytes (deed ∷ deeds) t image past (inl now) = absurd (omega (arith, past, now.0))
none_later bytes (deed ∷ deeds) t image past (inr before) =
    none_later (undone bytes deed) deeds t image (omega (arith, past)) before

-- what a crash may leave now is left at each moment up to now
pub left_now : (bytes : List ℕ) (deeds : List Deed) (t : ℕ) (image : List ℕ) → t ≤ length deeds →
    IsLeft bytes deeds image → LeftSince bytes deeds t image
left_now bytes [] t image le now = (le, now)
left_now bytes (deed ∷ deeds) t image le now = inl (le, now)

-- what a crash left since the last call is what it may leave now
pub left_only_now : (bytes : List ℕ) (deeds : List Deed) (image : List ℕ) → LeftSince bytes deeds (length deeds) image →
    IsLeft bytes deeds image
left_only_now bytes [] image left = left.1
left_only_now bytes (deed ∷ deeds) image (inl now) = now.1
left_only_now bytes (deed ∷ deeds) image (inr before) =
    absurd (none_later (undone bytes deed) deeds (length (deed ∷ deeds)) image (omega arith) before)

-- a write of this piece at this place: the bytes have it there, and the newest call gives the old bytes back
pub record Writes (at : ℕ) (piece : List ℕ) (old new : DiskRecord) : Type 0 where
  pub over : List ℕ
  pub holds : Holds at piece old.bytes new.bytes
  pub deeds : new.deeds ≡ wrote at (length piece) over ∷ old.deeds
  pub undoes : undone new.bytes (wrote at (length piece) over) ≡ old.bytes
  pub faults : new.faults ≡ old.faults
