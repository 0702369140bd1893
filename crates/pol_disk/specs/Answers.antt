-- What is known of a file by its calls with their answers, as long as it answers as a disk does.
use Rattle.std.specs.Prelude.{ℕ, ◌-◌, min, ◌==◌, Bool, true, if◌then◌else◌, List, [], ◌∷◌, length, take, drop, bytes_eq, Option, Some, None}
use Rattle.pol_disk.specs.Disks.{Elapses, spliced}
use Rattle.pol_disk.specs.Records.{Deed, IsLeft, LeftSince, synced, wrote}

-- a call with its answer: the file was so long; these bytes were read from a place on; the whole piece was written
-- there; a write of the piece failed, and may have been made in part; a sync succeeded
pub data FileCall : Type 0 where
  measured : (size : ℕ) → FileCall
  read : (at : ℕ) (bytes : List ℕ) → FileCall
  written : (at : ℕ) (piece : List ℕ) → FileCall
  tried : (at : ℕ) (piece : List ℕ) → FileCall
  brought : FileCall

-- what is known of a file: the bytes that reads give, the calls that changed what a crash may leave, the newest first,
-- and whether each answer was the one of a disk
pub record Told : Type 0 where
  pub bytes : List ℕ
  pub deeds : List Deed
  pub is_true : Bool

-- what is known before the first answer: the file held these bytes, and earlier programs had made these calls
abbrev pub told_first : List ℕ → List Deed → Told
told_first bytes deeds = record { bytes = bytes; deeds = deeds; is_true = true }

-- what a crash now may leave of the file
abbrev pub MayLeave : Told → List ℕ → Type 0
MayLeave told = IsLeft told.bytes told.deeds

-- what a crash at some moment might have left, since so many calls were made
abbrev pub MightHaveLeft : Told → ℕ → List ℕ → Type 0
MightHaveLeft told = LeftSince told.bytes told.deeds

-- what reads give is one of the images
abbrev pub GivesImage : Told → Type 0
GivesImage told = MayLeave told told.bytes

-- time goes on by the calls that are known
abbrev pub GoesOn : Told → Told → Type 0
GoesOn old new = Elapses (length old.deeds) (length new.deeds) (MightHaveLeft old) (MightHaveLeft new) (MayLeave new)

-- the bytes lie at this place
abbrev pub stand_at : ℕ → List ℕ → List ℕ → Bool
stand_at at bytes all = bytes_eq (take (length bytes) (drop at all)) bytes

-- the bytes in a range
abbrev pub over : ℕ → ℕ → List ℕ → List ℕ
over at size bytes = take (min size (length bytes - at)) (drop at bytes)

-- what is known after one call more of a file that answered as a disk does so far: a write that failed doesn't change
-- what reads give, and a crash may leave it
abbrev pub after_call : FileCall → Told → Told
after_call (measured size) told = record told { is_true = size == length told.bytes }
after_call (read at bytes) told = record told { is_true = stand_at at bytes told.bytes }
after_call (written at piece) told = record told {
  bytes = spliced at piece told.bytes;
  deeds = wrote at (length piece) (over at (length piece) told.bytes) ∷ told.deeds;
}
after_call (tried at piece) told = record told {
  deeds = wrote at (length piece) (over at (length piece) told.bytes) ∷ told.deeds;
}
after_call brought told = record told { deeds = synced ∷ told.deeds }

-- what is known of any file after one call more: behind an answer that was no disk's nothing more is learnt
abbrev pub learnt : FileCall → Told → Told
learnt call told = if told.is_true then after_call call told else told

-- what is known after all calls, the newest first, from what was known before the first
abbrev pub told_after : Told → List FileCall → Told
told_after start [] = start
told_after start (call ∷ calls) = learnt call (told_after start calls)

-- the bytes of a file, known as long as each answer was the one of a disk
abbrev pub bytes_told : Told → Option (List ℕ)
bytes_told told = if told.is_true then Some told.bytes else None
