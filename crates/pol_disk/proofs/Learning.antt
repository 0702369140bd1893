-- What one call more of a file tells of it.
use Rattle.std.proofs.Common.{◌≡◌, ℕ, ◌≤◌, Bool, true, false, true≢false, List, length, None, Some, IfSome, if◌then◌else◌, refl, sym}
use Rattle.pol_disk.specs.Answers.{FileCall, written, tried, Told, GivesImage, GoesOn, MayLeave, after_call, learnt, bytes_told, over}
use Rattle.pol_disk.specs.Disks.{Follows, Torn, spliced}
use Rattle.pol_disk.specs.Records.{Deed, wrote}
use Rattle.pol_disk.proofs.Deeds.{elapses_same, elapses_push, follows_write, left_tried, left_written, undone_same, undone-spliced}
use Rattle.pol_disk.proofs.Splices.{torn_same}

-- one of two values by a test
either : {T : Type 0} (test : Bool) (P : T → Type 0) (one other : T) → (test ≡ true → P one) →
    (test ≡ false → P other) → P (if test then one else other)
either true P one other true_so false_so = true_so refl
either false P one other true_so false_so = false_so refl

-- what has Q where it is told has it, where it is told
has_where_told : (b : Bool) (bytes : List ℕ) (Q : List ℕ → Type 0) → b ≡ true →
    IfSome (if b then Some bytes else None) Q → Q bytes
has_where_told true bytes Q true_is holds = holds
has_where_told false bytes Q false_is holds = absurd (true≢false (sym false_is))

-- what is learnt of a call has P where it has it while all was true, and where nothing is learnt any more
learn : (call : FileCall) (old : Told) (P : Told → Type 0) → (old.is_true ≡ true → P (after_call call old)) →
    (old.is_true ≡ false → P old) → P (learnt call old)
learn call old P true_so false_so = either old.is_true P (after_call call old) old true_so false_so

-- a write of a piece, whole or tried, from a place within the bytes that are told
module _ (at : ℕ) (piece : List ℕ) (old : Told) (within : IfSome (bytes_told old) (λ all. at ≤ length all))
    (left : GivesImage old) where
  -- how a write changes an image
  abbrev step : List ℕ → List ℕ → Type 0
  step = Torn at (length piece)

  -- the call that the record of the disk gets
  abbrev deed : Deed
  deed = wrote at (length piece) (over at (length piece) old.bytes)

  -- the place lies within, where each answer was a disk's
  near : old.is_true ≡ true → at ≤ length old.bytes
  near true_is = has_where_told old.is_true old.bytes (λ all. at ≤ length all) true_is within

  -- what reads give is an image after it
  pub left_written_now : GivesImage (learnt (written at piece) old)
  left_written_now = learn (written at piece) old GivesImage
      (λ true_is. left_written at piece (over at (length piece) old.bytes) old.bytes (spliced at piece old.bytes)
      old.deeds (near true_is) refl (undone-spliced at piece old.bytes (near true_is)) left)
      (λ _. left)

  -- after one that was tried too
  pub left_tried_now : GivesImage (learnt (tried at piece) old)
  left_tried_now = learn (tried at piece) old GivesImage
      (λ true_is. left_tried at (length piece) (over at (length piece) old.bytes) old.bytes old.deeds
      (undone_same at (length piece) old.bytes (near true_is)) left)
      (λ _. left)

  -- each image after it comes by the write from one before
  abbrev Comes : Told → Type 0
  Comes new = Follows step (MayLeave old) (MayLeave new)

  -- by none, where nothing is learnt
  same_images : Comes old
  same_images image now = (image, now, torn_same at (length piece) image)

  -- by one that was made
  pub written_comes : Comes (learnt (written at piece) old)
  written_comes = learn (written at piece) old Comes
      (λ true_is. follows_write at piece (over at (length piece) old.bytes) old.bytes (spliced at piece old.bytes)
      old.deeds (near true_is) (undone-spliced at piece old.bytes (near true_is)) left)
      (λ _. same_images)

  -- by one that was tried
  pub tried_comes : Comes (learnt (tried at piece) old)
  tried_comes = learn (tried at piece) old Comes
      (λ true_is. follows_write at piece (over at (length piece) old.bytes) old.bytes old.bytes old.deeds
      (near true_is) (undone_same at (length piece) old.bytes (near true_is)) left)
      (λ _. same_images)

  -- and time goes on by one that was made
  pub written_elapses : GoesOn old (learnt (written at piece) old)
  written_elapses = learn (written at piece) old (GoesOn old)
      (λ true_is. elapses_push old.bytes (spliced at piece old.bytes) old.deeds deed
      (undone-spliced at piece old.bytes (near true_is)))
      (λ _. elapses_same old.bytes old.deeds)

  -- by one that was tried
  pub tried_elapses : GoesOn old (learnt (tried at piece) old)
  tried_elapses = learn (tried at piece) old (GoesOn old)
      (λ true_is. elapses_push old.bytes old.bytes old.deeds deed
      (undone_same at (length piece) old.bytes (near true_is)))
      (λ _. elapses_same old.bytes old.deeds)
