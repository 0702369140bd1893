-- What a call leaves that opens a disk and runs a job on the items that it keeps.
use Rattle.std.proofs.Common.{ℕ, ◌≡◌, ◌≤◌, ◌⊎◌, inl, inr, ⊎_elim, List, [], Option, refl, subst}
use Rattle.std.specs.Prelude.{false, IfSome}
use Rattle.pol_disk.specs.Disks.{LeavesOnly, ToldOn}
use Rattle.pol_disk.proofs.Moments.{then, wider}
use Rattle.pol_disk.proofs.Telling.{was_told}
use Rattle.pol_io.specs.Pieces.{pieces}
use Rattle.pol_jobs.proofs.Written.{nothing_written}
use Rattle.pol_kept.specs.Keeping.{KeptState}
use Rattle.pol_kept.specs.Opens.{IsLeftOf}
use Rattle.pol_kept.specs.Stands.{StandsFor}
use Rattle.pol_kept.specs.Work.{ChronicleWork, IsLawful}
use Rattle.pol_kept.proofs.Opened.{left_images, short_stands}
use Rattle.pol_kept.proofs.Texts.{one_list_of_items}
use Rattle.kept_jobs.specs.Telling.{Telling, Tells}
use Rattle.kept_jobs.specs.Keeping.{IsKept, JobState, job_state}
use Rattle.kept_jobs.specs.Leaving.{IsEarlier, KeepsAllLines, KeepsLines, KeptJob, ReadsAs, StandsForAnswered}
use Rattle.kept_jobs.specs.Leaving.{StandsForMore}
use Rattle.kept_jobs.proofs.Running.{of_input, of_some}

module _ {State Item Answer : Type 0} (work : ChronicleWork State Item Answer) where
  -- no line was met yet
  stands_none : (items_with : List (List ℕ) → List Item) (input image : List ℕ) → StandsFor work (items_with []) image →
      StandsForMore work items_with input image
  stands_none items_with input image stands =
      record { first = []; others = pieces input; are = refl; stands = stands }

  -- before anything is written, no answer is
  stands_unanswered : (items_with : List (List ℕ) → List Item) (answers_with : List (List ℕ) → List ℕ)
      (input image : List ℕ) (held : Option (List ℕ)) → StandsFor work (items_with []) image →
      StandsForAnswered work items_with answers_with input held held image
  stands_unanswered items_with answers_with input image held stands = record {
    first = [];
    others = pieces input;
    are = refl;
    stands = stands;
    taken = inr (nothing_written held (answers_with []));
  }

  module _ {D : Type 0} (disk : Telling D) where
    -- the items that a disk reads as are one list
    pub reads_one : IsLawful work → (first : D) (old some : List Item) (reads : ReadsAs work disk first old) →
        StandsFor work some reads.bytes → some ≡ old
    reads_one lawful first old some reads stood =
        one_list_of_items work lawful [] reads.bytes some old stood reads.stand

    -- what `Kept::open` leaves: an image of before, or one that stands for what the disk reads as
    pub left_old : IsLawful work → (first : D) (old : List Item) (reads : ReadsAs work disk first old)
        (image : List ℕ) → IsLeftOf work reads.bytes (disk.images first) image →
        disk.images first image ⊎ StandsFor work old image
    left_old lawful first old reads image (inl before) = inl before
    left_old lawful first old reads image (inr one) =
        inr (subst (λ (some : List Item). StandsFor work some image)
        (reads_one lawful first old [] reads (short_stands work reads.bytes one.1)) one.2)

    -- what `Kept::open` leaves where such images are those of before a line is met
    pub left_plain : IsLawful work → (first mid : D) (old : List Item) (reads : ReadsAs work disk first old)
        (P : List ℕ → Type 0) → ((image : List ℕ) → disk.images first image ⊎ StandsFor work old image → P image) →
        LeavesOnly disk.moment disk.left_since first mid (IsLeftOf work reads.bytes (disk.images first)) →
        LeavesOnly disk.moment disk.left_since first mid P
    left_plain lawful first mid old reads P within left =
        wider disk.moment disk.left_since first mid (IsLeftOf work reads.bytes (disk.images first)) P left
        (λ image one. within image (left_old lawful first old reads image one))

    -- a job whose store was opened is kept: from the clauses `opened` and `stand` of `Kept::open`
    pub opened_kept : {Known C : Type 0} (items : Known → List Item) (known : Known) (store : KeptState C D) →
        (store.closed ≡ false) × (store.waiting ≡ 0) → Tells disk store.disk →
        ((image : List ℕ) → disk.images store.disk image → StandsFor work (items known) image) →
        IsKept work items disk (job_state known store)
    opened_kept items known store opened told stand =
        record { opened = opened.0; bytes = told.0; told = told.1; none = opened.1; stand = stand }

    module _ (job : KeptJob Item) where
      -- what is left of a disk before a line is met: an image of before, or one that stands for the items that the job
      -- begins with
      abbrev pub IsBegun : D → List Item → List ℕ → Type 0
      IsBegun before old image =
          IsEarlier work disk job.begins before old image ⊎ StandsFor work (job.items_with old []) image

      module _ (first mid : D)
          (left : (old : List Item) → ReadsAs work disk first old → Tells disk mid →
          LeavesOnly disk.moment disk.left_since first mid (IsBegun first old)) where
        -- a crash before a line is met
        opening_more : (old : List Item) → ReadsAs work disk first old → Tells disk mid → (input : List ℕ) →
            LeavesOnly disk.moment disk.left_since first mid (λ image. IsEarlier work disk job.begins first old image
            ⊎ StandsForMore work (job.items_with old) input image)
        opening_more old reads tells input =
            wider disk.moment disk.left_since first mid (IsBegun first old)
            (λ image. IsEarlier work disk job.begins first old image
            ⊎ StandsForMore work (job.items_with old) input image)
            (left old reads tells)
            (λ image. ⊎_elim (λ was. inl was)
            (λ stands. inr (stands_none (job.items_with old) input image stands)))

        -- The disk couldn't be opened.
        pub unopened_keeps : (input held : Option (List ℕ)) → ((now : D) (t : ℕ) (image : List ℕ) →
            t ≤ disk.moment now → disk.images now image → disk.left_since now t image) →
            KeepsLines work disk job first mid input held held
        unopened_keeps input held counts_now = record {
          moments = λ old reads tells. of_input input _ (opening_more old reads tells);
          kept = λ old reads tells. of_input input _ (λ input image now.
              ⊎_elim (λ was. inl (refl, was))
              (λ stands. inr (stands_unanswered (job.items_with old) (job.answers_with old) input image held stands))
              (left_images disk.images disk.moment disk.left_since counts_now first mid (IsBegun first old)
              (left old reads tells) image now));
        }

      -- the job starts from these old items: its store is kept, and these are the items and the answers of its lines
      pub record StartsFrom {Known : Type 0} (items : Known → List Item) (start : JobState Known D)
          (items_with : List (List ℕ) → List Item) (answers_with : List (List ℕ) → List ℕ) (old : List Item)
          : Type 0 where
        pub kept : IsKept work items disk start
        pub items_are : items_with ≡ job.items_with old
        pub answers_are : answers_with ≡ job.answers_with old

      module _ {Known : Type 0} (items : Known → List Item) (first last : D) (start : JobState Known D)
          (input : Option (List ℕ)) (items_with : List (List ℕ) → List Item)
          (answers_with : List (List ℕ) → List ℕ) (on : ToldOn (disk.bytes start.disk) (disk.bytes last))
          (starts : (old : List Item) → ReadsAs work disk first old → Tells disk start.disk →
          StartsFrom items start items_with answers_with old) where
        -- a disk that tells its bytes at the end told them when it was opened
        told_mid : Tells disk last → Tells disk start.disk
        told_mid tells = was_told (disk.bytes start.disk) (disk.bytes last) on tells.0 tells.1

        -- The disk was opened, and the job ran, however it ended.
        pub run_keeps : (held held' : Option (List ℕ)) →
            ((old : List Item) → ReadsAs work disk first old → Tells disk start.disk →
            LeavesOnly disk.moment disk.left_since first start.disk (IsBegun first old)) →
            (IsKept work items disk start → IfSome input (λ input.
            LeavesOnly disk.moment disk.left_since start.disk last (StandsForMore work items_with input))) →
            (IsKept work items disk start → IfSome input (λ input. (image : List ℕ) → disk.images last image →
            StandsForAnswered work items_with answers_with input held held' image)) →
            KeepsLines work disk job first last input held held'
        run_keeps held held' left moments kept = record {
          moments = λ old reads tells.
              let mid = told_mid tells in
              let from = starts old reads mid in
              of_some input (moments from.kept) (λ input went.
              then disk.moment disk.left_since first start.disk last
              (λ image. IsEarlier work disk job.begins first old image
              ⊎ StandsForMore work (job.items_with old) input image) (StandsForMore work items_with input)
              (opening_more first start.disk left old reads mid input) went
              (λ image one. inr (subst (λ with_items. StandsForMore work with_items input image) from.items_are one)));
          kept = λ old reads tells.
              let from = starts old reads (told_mid tells) in
              of_some input (kept from.kept) (λ input went image now.
              inr (subst (λ answers. StandsForAnswered work (job.items_with old) answers input held held' image)
              from.answers_are
              (subst (λ with_items. StandsForAnswered work with_items answers_with input held held' image)
              from.items_are (went image now))));
        }

        -- And all was done.
        pub run_keeps_all : (IsKept work items disk start → IfSome input (λ input. (image : List ℕ) →
            disk.images last image → StandsFor work (items_with (pieces input)) image)) →
            KeepsAllLines work disk job first last input
        run_keeps_all went = λ old reads tells.
            let from = starts old reads (told_mid tells) in
            of_some input (went from.kept) (λ input all image now.
            subst (λ with_items. StandsFor work (with_items (pieces input)) image) from.items_are (all image now))
