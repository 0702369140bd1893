-- A job on kept items before it meets a line: the law of a job.
use Rattle.std.specs.Prelude.{ℕ, List, [], true}
use Rattle.std.proofs.Common.{refl, sym, append-nil}
use Rattle.pol_disk.proofs.Moments.{started}
use Rattle.pol_disk.proofs.Telling.{on_same}
use Rattle.pol_jobs.specs.LineWork.{LineWork}
use Rattle.pol_kept.specs.Work.{ChronicleWork}
use Rattle.kept_jobs.specs.Telling.{Telling}
use Rattle.kept_jobs.specs.Keeping.{GoesOn, IsKept, JobState, StandsForSome}

module _ {State Item Answer : Type 0} (work : ChronicleWork State Item Answer) {Known Reason : Type 0}
    (lines : LineWork Known Reason) (items : Known → List Item) {D : Type 0} (disk : Telling D) where
  -- each image of a kept job's disk stands for the items that are kept
  stands_now : (job : JobState Known D) → IsKept work items disk job → (image : List ℕ) →
      disk.images job.disk image → StandsForSome work lines items job.known [] [] image
  stands_now job kept image left = record {
    kept = items job.known;
    some = record { first = []; behind = []; are = refl; is = refl };
    stands = kept.stand image left;
  }

  -- a job goes on from itself to itself, before it meets a line
  pub goes_nowhere : ((now : D) (image : List ℕ) → disk.left_since now (disk.moment now) image →
      disk.images now image) → (job : JobState Known D) → GoesOn work lines items disk job job [] [] true
  goes_nowhere only_now job = record {
    opened = λ whole opened. opened;
    quiet = λ opened. refl;
    cause = λ opened closed. cc;
    on = on_same (disk.bytes job.disk);
    leaves = λ kept. started disk.moment disk.left_since job.disk (StandsForSome work lines items job.known [] [])
        (λ image left. stands_now job kept image (only_now job.disk image left));
    left = stands_now job;
    met = λ opened kept. record {
      bytes = kept.bytes;
      told = kept.told;
      kept = items job.known;
      group = [];
      parts = record { are = sym (append-nil (items job.known)); many = sym kept.none };
      some = record { first = []; behind = []; are = refl; is = refl };
      knows = refl;
    };
  }
