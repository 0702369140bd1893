-- A job on kept items, while lines are met and settled.
use Rattle.std.specs.Prelude.{ℕ, ◌≡◌, ◌+◌, ◌⊎◌, List, [], ◌∷◌, ◌++◌, length, Bool, true, false, IsTrue, Some}
use Rattle.pol_disk.specs.Disks.{LeavesOnly, ToldOn}
use Rattle.pol_io.specs.Causes.{Rose}
use Rattle.pol_jobs.specs.LineWork.{Line, LineWork, after_each}
use Rattle.pol_kept.specs.Keeping.{AreParts, KeptState, items_of}
use Rattle.pol_kept.specs.Stands.{StandsFor}
use Rattle.pol_kept.specs.Work.{ChronicleWork}
use Rattle.kept_jobs.specs.Telling.{Telling}

-- what is seen of a job on kept items: what it knows, its disk, whether a call of the disk failed, and how many of its
-- items wait to be kept: the last ones
pub record JobState (Known D : Type 0) : Type 0 where
  pub known : Known
  pub disk : D
  pub closed : Bool
  pub waiting : ℕ

-- the job that knows this and has this store
abbrev pub job_state : {Known C D : Type 0} → Known → KeptState C D → JobState Known D
job_state known store =
    record { known = known; disk = store.disk; closed = store.closed; waiting = store.waiting }

-- the job is kept: its store is open, its disk's bytes are known, no item waits, and each image stands for its items
pub record IsKept {State Item Answer : Type 0} (work : ChronicleWork State Item Answer) {Known : Type 0}
    (items : Known → List Item) {D : Type 0} (disk : Telling D) (job : JobState Known D) : Type 0 where
  pub opened : job.closed ≡ false
  pub bytes : List ℕ
  pub told : disk.bytes job.disk ≡ Some bytes
  pub none : job.waiting ≡ 0
  pub stand : (image : List ℕ) → disk.images job.disk image → StandsFor work (items job.known) image

-- ---- one line

-- The items grew by some, which wait behind the others: by none, or so that they are now those that are due.
pub record Adds {Item : Type 0} (old : List Item) (waiting : ℕ) (now : List Item) (waiting' : ℕ) (due : List Item)
    : Type 0 where
  pub more : List Item
  pub are : now ≡ old ++ more
  pub many : waiting' ≡ waiting + length more
  pub all : (more ≡ []) ⊎ (now ≡ due)

-- a store met a line behind which these items are due, without a call of the disk
pub record Admits {State Item Answer : Type 0} (work : ChronicleWork State Item Answer) {C D : Type 0}
    (state : C → State) (before now : KeptState C D) (due : List Item) : Type 0 where
  pub uncalled : now.disk ≡ before.disk
  pub closed : now.closed ≡ before.closed
  pub adds : Adds (items_of work state before) before.waiting (items_of work state now) now.waiting due

-- ---- lines

module _ {Known Reason : Type 0} (lines : LineWork Known Reason) {Item : Type 0} (items : Known → List Item) where
  -- the items are those behind the settled lines and the first of those that wait
  pub record AreSome (known : Known) (settled waiting : List Line) (some : List Item) : Type 0 where
    pub first : List Line
    pub behind : List Line
    pub are : waiting ≡ first ++ behind
    pub is : some ≡ items (after_each lines known (settled ++ first))

  -- the job stopped at the last of the lines: its items are those behind all of them, or behind all but that one
  pub record StopsAtLast (known : Known) (settled waiting : List Line) (now : Known) : Type 0 where
    pub before : List Line
    pub last : Line
    pub are : waiting ≡ before ++ last ∷ []
    pub some : AreSome known (settled ++ before) (last ∷ []) (items now)

  -- where the job replied to the last line too, it knows now what is known behind all lines; else it stopped there
  abbrev pub KnowsMet : Bool → Known → List Line → List Line → Known → Type 0
  KnowsMet true known settled waiting now = now ≡ after_each lines known (settled ++ waiting)
  KnowsMet false known settled waiting now = StopsAtLast known settled waiting now

module _ {State Item Answer : Type 0} (work : ChronicleWork State Item Answer) {Known Reason : Type 0}
    (lines : LineWork Known Reason) (items : Known → List Item) where
  -- the image stands for the items behind the settled lines and the first of those that wait
  pub record StandsForSome (known : Known) (settled waiting : List Line) (image : List ℕ) : Type 0 where
    pub kept : List Item
    pub some : AreSome lines items known settled waiting kept
    pub stands : StandsFor work kept image

  module _ {D : Type 0} (disk : Telling D) where
    -- the job has met these lines, and its disk's bytes are known: the disk keeps the items behind the settled ones and
    -- maybe behind some of the others, and the group of the rest waits
    pub record HasMet (first now : JobState Known D) (settled waiting : List Line) (whole : Bool) : Type 0 where
      pub bytes : List ℕ
      pub told : disk.bytes now.disk ≡ Some bytes
      pub kept : List Item
      pub group : List Item
      pub parts : AreParts (items now.known) now.waiting kept group
      pub some : AreSome lines items first.known settled waiting kept
      pub knows : KnowsMet lines items whole first.known settled waiting now.known

    -- From one state of a job to another these lines were met: those that are settled, and those that wait behind them,
    -- the last of which was replied to as well or not. While all were, an open store stays open; while it is open its
    -- disk doesn't fail, and it is closed only where the disk failed. Of a kept job a crash at any moment leaves the
    -- items behind the first lines, and each image now stands for those behind all settled ones and the first that
    -- wait.
    pub record GoesOn (first now : JobState Known D) (settled waiting : List Line) (whole : Bool) : Type 0 where
      pub opened : IsTrue whole → first.closed ≡ false → now.closed ≡ false
      pub quiet : now.closed ≡ false → disk.faults now.disk ≡ disk.faults first.disk
      pub cause : first.closed ≡ false → now.closed ≡ true → Rose (disk.faults first.disk) (disk.faults now.disk)
      pub on : ToldOn (disk.bytes first.disk) (disk.bytes now.disk)
      pub leaves : IsKept work items disk first → LeavesOnly disk.moment disk.left_since first.disk now.disk
          (StandsForSome first.known [] (settled ++ waiting))
      pub left : IsKept work items disk first → (image : List ℕ) → disk.images now.disk image
          → StandsForSome first.known settled waiting image
      pub met : now.closed ≡ false → IsKept work items disk first → HasMet first now settled waiting whole
