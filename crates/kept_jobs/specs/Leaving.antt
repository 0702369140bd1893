-- What jobs on kept items leave on their disk.
use Rattle.std.specs.Prelude.{ℕ, ◌≡◌, ◌⊎◌, List, [], ◌++◌, Bool, true, false, Option, Some, IfSome}
use Rattle.pol_disk.specs.Disks.{LeavesOnly}
use Rattle.pol_io.specs.Pieces.{pieces}
use Rattle.pol_jobs.specs.Written.{WritesSome}
use Rattle.pol_kept.specs.Stands.{StandsFor}
use Rattle.pol_kept.specs.Work.{ChronicleWork}
use Rattle.kept_jobs.specs.Telling.{Telling, Tells}

-- A job on kept items, by those that its disk read as: the items with those that it keeps of some lines, and what it
-- replies to these; and whether it begins a store with items of its own, before it meets a line.
pub record KeptJob (Item : Type 0) : Type 0 where
  pub items_with : List Item → List (List ℕ) → List Item
  pub answers_with : List Item → List (List ℕ) → List ℕ
  pub begins : Bool

module _ {State Item Answer : Type 0} (work : ChronicleWork State Item Answer) where
  -- the image stands for the items with those of the first lines of an input
  pub record StandsForMore (items_with : List (List ℕ) → List Item) (input image : List ℕ) : Type 0 where
    pub first : List (List ℕ)
    pub others : List (List ℕ)
    pub are : pieces input ≡ first ++ others
    pub stands : StandsFor work (items_with first) image

  -- the image stands for the items with those of the first lines of an input; and these are all lines, or the sink took
  -- no more than the answers to them: so each line whose answer it took whole is one of them
  pub record StandsForAnswered (items_with : List (List ℕ) → List Item) (answers_with : List (List ℕ) → List ℕ)
      (input : List ℕ) (held held' : Option (List ℕ)) (image : List ℕ) : Type 0 where
    pub first : List (List ℕ)
    pub others : List (List ℕ)
    pub are : pieces input ≡ first ++ others
    pub stands : StandsFor work (items_with first) image
    pub taken : (others ≡ []) ⊎ WritesSome held held' (answers_with first)

  module _ {D : Type 0} (disk : Telling D) where
    -- the disk reads as bytes that stand for these items; a crash may leave these or others
    pub record ReadsAs (now : D) (old : List Item) : Type 0 where
      pub bytes : List ℕ
      pub told : disk.bytes now ≡ Some bytes
      pub stand : StandsFor work old bytes

    -- an image of before the first line: a crash might have left it before; or, of a job that begins its store, it
    -- stands for the items that the disk read as
    abbrev pub IsEarlier : Bool → D → List Item → List ℕ → Type 0
    IsEarlier false before old image = disk.images before image
    IsEarlier true before old image = disk.images before image ⊎ StandsFor work old image

    -- From one state of the disk to another, through which its bytes were known, the items of an input were kept behind
    -- those that it read as, and the sink took what it has now. A crash at any moment leaves an image of before the
    -- first line, or the items with those of the first lines. At the end each image stands for so many that each line
    -- whose answer the sink took whole is among them; where the sink took nothing, it may be one of before.
    pub record KeepsLines (job : KeptJob Item) (before now : D) (left held held' : Option (List ℕ)) : Type 0 where
      pub moments : (old : List Item) → ReadsAs before old → Tells disk now → IfSome left (λ input.
          LeavesOnly disk.moment disk.left_since before now
          (λ image. IsEarlier job.begins before old image ⊎ StandsForMore (job.items_with old) input image))
      pub kept : (old : List Item) → ReadsAs before old → Tells disk now → IfSome left (λ input.
          (image : List ℕ) → disk.images now image →
          ((held' ≡ held) × IsEarlier job.begins before old image)
          ⊎ StandsForAnswered (job.items_with old) (job.answers_with old) input held held' image)

    -- the items of all lines of an input were kept: each image at the end stands for the old items with those
    abbrev pub KeepsAllLines : KeptJob Item → D → D → Option (List ℕ) → Type 0
    KeepsAllLines job before now left =
        (old : List Item) → ReadsAs before old → Tells disk now → IfSome left (λ input.
        (image : List ℕ) → disk.images now image → StandsFor work (job.items_with old (pieces input)) image)

    -- From one state of the disk to another, through which its bytes were known, nothing happened to the items that it
    -- read as: a crash at any moment leaves them, or what a crash might have left before.
    abbrev pub HoldsOn : D → D → Type 0
    HoldsOn before now =
        (old : List Item) → ReadsAs before old → Tells disk now →
        LeavesOnly disk.moment disk.left_since before now
        (λ image. disk.images before image ⊎ StandsFor work old image)

    -- each image at the end stands for the items that the disk read as
    abbrev pub HoldsAll : D → D → Type 0
    HoldsAll before now =
        (old : List Item) → ReadsAs before old → Tells disk now →
        (image : List ℕ) → disk.images now image → StandsFor work old image
