-- What was answered in a run is kept by all that come later.
use Rattle.std.proofs.Common.{ℕ, ◌≡◌, ◌⊎◌, inl, inr, ⊎_elim, List, [], ◌∷◌, ◌++◌, Bool, true, false, sym, ◌∙◌, ap}
use Rattle.std.proofs.Common.{subst, append_assoc, append-nil}
use Rattle.std.specs.List.{AllByRecursion}
use Rattle.pol_kept.specs.Stands.{StandsFor}
use Rattle.pol_kept.specs.Work.{ChronicleWork, IsLawful}
use Rattle.pol_kept.proofs.Texts.{one_list_of_items}
use Rattle.kept_jobs.specs.Telling.{Telling}
use Rattle.kept_jobs.specs.Leaving.{IsEarlier, KeptJob, ReadsAs, StandsForAnswered, StandsForMore}
use Rattle.kept_jobs.specs.Life.{AreRuns, HasAnswers, KeepsAnswered, KeepsOld, LivesKeepAnswers, Run, RunsBehind}
use Rattle.kept_jobs.specs.Life.{last_of}

module _ {State Item Answer : Type 0} (work : ChronicleWork State Item Answer) (lawful : IsLawful work) {D : Type 0}
    (disk : Telling D) (job : KeptJob Item) (keeps_old : KeepsOld work job) where
  -- what an image has of a run, another one has that stands for its items and more
  answers_grow : (run : Run D Item) (old some more : List Item) (bytes image : List ℕ) → StandsFor work old bytes →
      StandsFor work some image → some ≡ old ++ more → HasAnswers work disk job bytes run →
      HasAnswers work disk job image run
  answers_grow run old some more bytes image stood stands are (inl none) = inl none
  answers_grow run old some more bytes image stood stands are (inr has) =
      let same : old ≡ job.items_with run.old has.first ++ has.more = one_list_of_items work lawful [] bytes old
      (job.items_with run.old has.first ++ has.more) stood has.stand in
      inr record {
        first = has.first;
        others = has.others;
        more = has.more ++ more;
        are = has.are;
        stand = subst (λ (some : List Item). StandsFor work some image)
            (are ∙ ap (λ (some : List Item). some ++ more) same
            ∙ append_assoc (job.items_with run.old has.first) has.more more) stands;
        answered = has.answered;
      }

  -- what the images before a run have of an earlier one, each image has that a crash leaves of it
  still_answered : (crashed : D) (earlier run : Run D Item) → RunsBehind work disk job crashed run →
      ((image : List ℕ) → disk.images crashed image → HasAnswers work disk job image earlier) → (image : List ℕ) →
      IsEarlier work disk job.begins run.before run.old image
      ⊎ StandsForMore work (job.items_with run.old) run.input image → HasAnswers work disk job image earlier
  still_answered crashed earlier run behind has image (inl was) = by_begins job.begins was
    where
      by_begins : (begins : Bool) → IsEarlier work disk begins run.before run.old image →
          HasAnswers work disk job image earlier
      by_begins false before = has image (behind.found image before)
      by_begins true (inl before) = has image (behind.found image before)
      by_begins true (inr stands) =
          answers_grow earlier run.old run.old [] behind.bytes image behind.stand stands (sym (append-nil run.old))
          (has behind.bytes (behind.found behind.bytes behind.one))
  still_answered crashed earlier run behind has image (inr one) =
      let grows = keeps_old run.old behind.bytes behind.stand one.first in
      answers_grow earlier run.old (job.items_with run.old one.first) grows.0 behind.bytes image behind.stand one.stands
      grows.1 (has behind.bytes (behind.found behind.bytes behind.one))

  -- the disk of a run reads as its old items
  reads_as : (crashed : D) (run : Run D Item) → RunsBehind work disk job crashed run →
      ReadsAs work disk run.before run.old
  reads_as crashed run behind = record { bytes = behind.bytes; told = behind.told; stand = behind.stand }

  -- at its end each image has what those before it had
  answered_on : (crashed : D) (earlier run : Run D Item) → RunsBehind work disk job crashed run →
      ((image : List ℕ) → disk.images crashed image → HasAnswers work disk job image earlier) → (image : List ℕ) →
      disk.images run.now image → HasAnswers work disk job image earlier
  answered_on crashed earlier run behind has image left =
      still_answered crashed earlier run behind has image
      (⊎_elim (λ was. inl was.1) (λ one. inr (more one))
      (behind.keeps.kept run.old (reads_as crashed run behind) behind.tells image left))
    where
      more : StandsForAnswered work (job.items_with run.old) (job.answers_with run.old) run.input run.held run.taken
          image → StandsForMore work (job.items_with run.old) run.input image
      more one = record { first = one.first; others = one.others; are = one.are; stands = one.stands }

  -- and what it answered itself
  answered_now : (crashed : D) (run : Run D Item) → RunsBehind work disk job crashed run → (image : List ℕ) →
      disk.images run.now image → HasAnswers work disk job image run
  answered_now crashed run behind image left =
      ⊎_elim (λ was. inl was.0) (λ one. inr (its one))
      (behind.keeps.kept run.old (reads_as crashed run behind) behind.tells image left)
    where
      its : StandsForAnswered work (job.items_with run.old) (job.answers_with run.old) run.input run.held run.taken
          image → KeepsAnswered work disk job run image
      its one = record {
        first = one.first;
        others = one.others;
        more = [];
        are = one.are;
        stand = subst (λ (some : List Item). StandsFor work some image)
            (sym (append-nil (job.items_with run.old one.first))) one.stands;
        answered = one.taken;
      }

  -- what each image has before some runs, each one has behind them
  carried : (first : D) (runs : List (Run D Item)) → AreRuns work disk job first runs → (earlier : Run D Item) →
      ((image : List ℕ) → disk.images first image → HasAnswers work disk job image earlier) → (image : List ℕ) →
      disk.images (last_of first runs) image → HasAnswers work disk job image earlier
  carried first [] are earlier has = has
  carried first (run ∷ runs) are earlier has =
      carried run.now runs are.1 earlier (answered_on first earlier run are.0 has)

  -- so each image behind some runs has what each of them answered
  has_all : (first : D) (runs : List (Run D Item)) → AreRuns work disk job first runs → (image : List ℕ) →
      disk.images (last_of first runs) image → AllByRecursion (HasAnswers work disk job image) runs
  has_all first [] are image left = tt
  has_all first (run ∷ runs) are image left =
      (carried run.now runs are.1 run (answered_now first run are.0) image left, has_all run.now runs are.1 image left)

  -- and each one that a crash leaves meanwhile
  has_still : (crashed : D) (next : Run D Item) → RunsBehind work disk job crashed next → (runs : List (Run D Item)) →
      ((image : List ℕ) → disk.images crashed image → AllByRecursion (HasAnswers work disk job image) runs) →
      (image : List ℕ) → IsEarlier work disk job.begins next.before next.old image
      ⊎ StandsForMore work (job.items_with next.old) next.input image →
      AllByRecursion (HasAnswers work disk job image) runs
  has_still crashed next behind [] has image one = tt
  has_still crashed next behind (run ∷ runs) has image one = (
    still_answered crashed run next behind (λ image left. (has image left).0) image one,
    has_still crashed next behind runs (λ image left. (has image left).1) image one,
  )

  -- any number of runs keeps what was answered
  pub lives_keep : LivesKeepAnswers work disk job
  lives_keep first runs are = record {
    behind = has_all first runs are;
    meanwhile = λ next behind image left.
        has_still (last_of first runs) next behind runs (has_all first runs are) image
        ((behind.keeps.moments next.old (reads_as (last_of first runs) next behind) behind.tells).each image left);
  }
