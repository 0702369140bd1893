-- What a call does to the bytes that reads give and to what a crash may leave.
use Rattle.std.specs.Prelude.{◌≡◌, ◌⊎◌, ◌+◌, ◌≤◌, ℕ, max, List, ◌++◌, length, take, drop, Option, None, Some, ⊤, IfSome}

-- bytes are known before a call and after it, and P holds of them; or they are known neither before nor after
abbrev pub BothTell : (List ℕ → List ℕ → Type 0) → Option (List ℕ) → Option (List ℕ) → Type 0
BothTell P None None = ⊤
BothTell P None (Some new) = ⊥
BothTell P (Some old) None = ⊥
BothTell P (Some old) (Some new) = P old new

-- the bytes that are known after a call, if any are, were known before it
abbrev pub StillTells : Option (List ℕ) → Option (List ℕ) → Type 0
StillTells old new = IfSome new (λ all. old ≡ Some all)

-- a disk whose bytes are known after a call had known bytes before it
abbrev pub ToldOn : Option (List ℕ) → Option (List ℕ) → Type 0
ToldOn old None = ⊤
ToldOn None (Some new) = ⊥
ToldOn (Some old) (Some new) = ⊤

-- the bytes that were known of a disk, where its bytes are known still
abbrev pub told_through : Option (List ℕ) → Option (List ℕ) → Option (List ℕ)
told_through old None = None
told_through old (Some new) = old

-- so many bytes at the front of the slice are those from this place on
abbrev pub Reads : ℕ → ℕ → List ℕ → List ℕ → Type 0
Reads at count slice bytes = take count slice ≡ take count (drop at bytes)

-- the bytes with a piece over them from a place on
abbrev pub spliced : ℕ → List ℕ → List ℕ → List ℕ
spliced at piece bytes = take at bytes ++ piece ++ drop (at + length piece) bytes

-- the new bytes are the old ones with this piece at this place
abbrev pub Holds : ℕ → List ℕ → List ℕ → List ℕ → Type 0
Holds at piece old new = new ≡ spliced at piece old

-- a write of so many bytes at this place, whole or in part: any bytes in the range and past the old end, the old ones
-- elsewhere, and a length between that before and that after the whole
pub record Torn (at size : ℕ) (old new : List ℕ) : Type 0 where
  pub before : take at new ≡ take at old
  pub after : drop (at + size) new ≡ drop (at + size) old
  pub no_shorter : length old ≤ length new
  pub no_longer : length new ≤ max (length old) (at + size)

-- what a crash may leave now, it might have left before
abbrev pub Keeps : (List ℕ → Type 0) → (List ℕ → Type 0) → Type 0
Keeps old new = (image : List ℕ) → new image → old image

-- what a crash may leave now comes by a step from what it might have left before
abbrev pub Follows : (List ℕ → List ℕ → Type 0) → (List ℕ → Type 0) → (List ℕ → Type 0) → Type 0
Follows step old new = (image : List ℕ) → new image → (before : List ℕ) × old before × step before image

-- a crash leaves these bytes and nothing else
abbrev pub Only : List ℕ → (List ℕ → Type 0) → Type 0
Only bytes images = (image : List ℕ) → images image → image ≡ bytes

-- what reads give, where it is known, is one of the images
abbrev pub IsImage : Option (List ℕ) → (List ℕ → Type 0) → Type 0
IsImage bytes images = IfSome bytes images

-- Time goes on: a crash since a moment might have left what it might have left before, or what it may leave now.
pub record Elapses (before now : ℕ) (past since : ℕ → List ℕ → Type 0) (images : List ℕ → Type 0) : Type 0 where
  pub later : before ≤ now
  pub nothing_else : (t : ℕ) (image : List ℕ) → t ≤ before → since t image → past t image ⊎ images image
  pub keeps : (t : ℕ) (image : List ℕ) → t ≤ before → past t image → since t image

-- A crash at any moment from old to new leaves an image that has P, as each image at old has.
pub record LeavesOnly {D : Type 0} (moment : D → ℕ) (left_since : D → ℕ → List ℕ → Type 0) (old new : D)
    (P : List ℕ → Type 0) : Type 0 where
  pub later : moment old ≤ moment new
  pub each : (image : List ℕ) → left_since new (moment old) image → P image
  -- for a run that began earlier
  pub earlier : (t : ℕ) (image : List ℕ) → t ≤ moment old → left_since new t image → left_since old t image ⊎ P image
