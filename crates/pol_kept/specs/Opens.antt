-- What opening a disk finds.
use Rattle.std.specs.Prelude.{◌≡◌, ◌⊎◌, ◌≤◌, ◌<◌, ℕ, List, [], length, Option, IfSome}
use Rattle.pol_disk.specs.Disks.{StillTells}
use Rattle.pol_texts.specs.Stands.{Begins}
use Rattle.pol_kept.specs.declared.opening.OpenFault.{OpenFault}
use Rattle.pol_kept.specs.declared.opening.OpenFault.TheVariants.{Memory, Disk, NotAStore}
use Rattle.pol_kept.specs.Work.{ChronicleWork}
use Rattle.pol_kept.specs.Stands.{AreTextsOf, BreaksAt, StandsFor, StandsForNone}
use Rattle.pol_kept.specs.Keeping.{KeepsItems}

module _ {State Item Answer : Type 0} (work : ChronicleWork State Item Answer) where
  -- the image begins with the records of these items, at most so many as can be, and a closed gate at this place
  pub record IsReplayed (image : List ℕ) (end : ℕ) (items : List Item) : Type 0 where
    pub texts : List (List ℕ)
    pub are : AreTextsOf work [] items texts
    pub begins : Begins image texts
    pub ends : end ≡ length begins.records
    pub few : length items ≤ work.most

  -- where the image is no store, the first record that isn't one is at this place
  abbrev pub Breaks : List ℕ → OpenFault → Type 0
  Breaks image Memory = Unit {0}
  Breaks image Disk = Unit {0}
  Breaks image (NotAStore place) = BreaksAt work place image

  -- the image is no store: it has more than one byte, it stands for no list of items, of at most so many as are kept,
  -- and the first record that isn't one is at this place
  pub record IsNoStore (image : List ℕ) (place : ℕ) : Type 0 where
    pub long : 1 < length image
    pub none : StandsForNone work image
    pub breaks : BreaksAt work place image

  -- why an image isn't read: there was no memory, or its first record that isn't one is at this place; no disk is
  -- involved
  abbrev pub IsUnread : List ℕ → OpenFault → Type 0
  IsUnread image Memory = Unit {0}
  IsUnread image Disk = ⊥
  IsUnread image (NotAStore place) = IsNoStore image place

  -- what a fault says: NotAStore, that no call of the disk failed; both it and Memory, that reads give what they gave,
  -- where the disk's bytes are still known
  abbrev pub Tells : OpenFault → Option (List ℕ) → Option (List ℕ) → ℕ → ℕ → Type 0
  Tells Memory seen seen' faults faults' = StillTells seen seen'
  Tells Disk seen seen' faults faults' = Unit {0}
  Tells (NotAStore place) seen seen' faults faults' =
      (faults' ≡ faults) × StillTells seen seen' × IfSome seen' (λ image. IsNoStore image place)

  -- the disk read as these bytes, which stand for the items, and it keeps the items now
  pub record IsOpened (all : List ℕ) (seen : Option (List ℕ)) (images : List ℕ → Type 0) (end : ℕ)
      (items : List Item) : Type 0 where
    pub stood : StandsFor work items all
    pub kept : KeepsItems work seen images end items

  -- what opening a disk leaves that reads as these bytes: an image that a crash might have left before; or one that
  -- stands for no item, where a crash might have left these bytes, and there is at most one of them
  abbrev pub IsLeftOf : List ℕ → (List ℕ → Type 0) → List ℕ → Type 0
  IsLeftOf all images image = images image ⊎ (images all × (length all ≤ 1) × StandsFor work [] image)
