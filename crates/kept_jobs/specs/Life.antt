-- The life of kept items: run after run, whatever ends each of them.
use Rattle.std.specs.Prelude.{ℕ, ◌≡◌, ◌⊎◌, List, [], ◌∷◌, ◌++◌, Option, Some}
use Rattle.std.specs.List.{AllByRecursion}
use Rattle.pol_io.specs.Pieces.{pieces}
use Rattle.pol_jobs.specs.Written.{WritesSome}
use Rattle.pol_kept.specs.Stands.{StandsFor}
use Rattle.pol_kept.specs.Work.{ChronicleWork}
use Rattle.kept_jobs.specs.Telling.{Telling, Tells}
use Rattle.kept_jobs.specs.Leaving.{KeepsLines, KeptJob}

-- where the old items can be kept, they and those of some lines are the old ones and more
abbrev pub KeepsOld : {State Item Answer : Type 0} → ChronicleWork State Item Answer → KeptJob Item → Type 0
KeepsOld {State} {Item} work job =
    (old : List Item) (image : List ℕ) → StandsFor work old image → (lines : List (List ℕ)) →
    (more : List Item) × (job.items_with old lines ≡ old ++ more)

-- a run: its disk at the start and at the end, the items that this read as, its input, and what its sink held at the
-- start and at the end; a run that is cut off is one whose disk and sink fail from then on
pub record Run (D Item : Type 0) : Type 0 where
  pub before : D
  pub now : D
  pub old : List Item
  pub input : List ℕ
  pub held : Option (List ℕ)
  pub taken : Option (List ℕ)

-- the disk at the end of the last run
abbrev pub last_of : {D Item : Type 0} → D → List (Run D Item) → D
last_of first [] = first
last_of first (run ∷ runs) = last_of run.now runs

module _ {State Item Answer : Type 0} (work : ChronicleWork State Item Answer) {D : Type 0} (disk : Telling D)
    (job : KeptJob Item) where
  -- A run behind a crash: it finds what that might leave, all of it where the program was killed, or one image where
  -- the power went. What it reads is one of the images, its disk's bytes are known to its end, and it keeps its lines.
  pub record RunsBehind (crashed : D) (run : Run D Item) : Type 0 where
    pub found : (image : List ℕ) → disk.images run.before image → disk.images crashed image
    pub bytes : List ℕ
    pub told : disk.bytes run.before ≡ Some bytes
    pub one : disk.images run.before bytes
    pub stand : StandsFor work run.old bytes
    pub tells : Tells disk run.now
    pub keeps : KeepsLines work disk job run.before run.now (Some run.input) run.held run.taken

  -- the runs were made one behind the other, the first one on what was left of this disk
  abbrev pub AreRuns : D → List (Run D Item) → Type 0
  AreRuns first [] = Unit {0}
  AreRuns first (run ∷ runs) = RunsBehind first run × AreRuns run.now runs

  -- the image stands for the old items, the new ones of the first lines, and maybe more; and these are all lines, or
  -- the sink took no more than the answers to them: so each line whose answer it took whole is one of them
  pub record KeepsAnswered (run : Run D Item) (image : List ℕ) : Type 0 where
    pub first : List (List ℕ)
    pub others : List (List ℕ)
    pub more : List Item
    pub are : pieces run.input ≡ first ++ others
    pub stand : StandsFor work (job.items_with run.old first ++ more) image
    pub answered : (others ≡ []) ⊎ WritesSome run.held run.taken (job.answers_with run.old first)

  -- the image has the items of each line whose answer the sink of the run took whole, if the sink took anything
  abbrev pub HasAnswers : List ℕ → Run D Item → Type 0
  HasAnswers image run = (run.taken ≡ run.held) ⊎ KeepsAnswered run image

  -- Each item that was answered in any of the runs is kept, in order: by each image that a crash may leave at the end
  -- of the last one, and by each one that a crash at any moment of a further run may leave.
  pub record AnswersAreKept (first : D) (runs : List (Run D Item)) : Type 0 where
    pub behind : (image : List ℕ) → disk.images (last_of first runs) image → AllByRecursion (HasAnswers image) runs
    pub meanwhile : (next : Run D Item) → RunsBehind (last_of first runs) next → (image : List ℕ) →
        disk.left_since next.now (disk.moment next.before) image → AllByRecursion (HasAnswers image) runs

  -- However many runs are made one behind the other, each item that was answered in any of them is kept.
  abbrev pub LivesKeepAnswers : Type 0
  LivesKeepAnswers = (first : D) (runs : List (Run D Item)) → AreRuns first runs → AnswersAreKept first runs
