-- The one task that the words mean, and which statuses it can't end with.
use Rattle.std.proofs.Common.{ℕ, ◌≡◌, ◌∙◌, List, refl, subst, sym, inl, inr}
use Rattle.std.specs.Prelude.{Result, Ok, Err}
use Rattle.std.specs.declared.convert.Infallible.{Infallible}
use Rattle.pol_arguments.specs.Words.{Means}
use Rattle.pol_arguments.specs.declared.LiveTask.{LiveTask}
use Rattle.pol_arguments.specs.declared.SerialTask.{SerialTask}
use Rattle.pol_arguments.specs.declared.SerialTask.TheVariants.{Replay, Demo, Audit, Find, Guard, Migrate, Attest}
use Rattle.pol_arguments.specs.declared.Task.{Task}
use Rattle.pol_arguments.specs.declared.Task.TheVariants.{Serial, Live, Operate}
use Rattle.pol_arguments.proofs.Meaning.{one_task}
use Rattle.pol_jobs.specs.LineWork.{Output}
use Rattle.pol_jobs.specs.declared.fault.JobFault.{JobFault}
use Rattle.pol_jobs.specs.declared.fault.JobFault.TheVariants as job
use Rattle.pol_keep.specs.declared.fault.KeepFault.{KeepFault}
use Rattle.pol_keep.specs.declared.fault.KeepFault.TheVariants as kept
use Rattle.pol_extract.specs.declared.fault.ExtractFault.{ExtractFault}
use Rattle.pol_extract.specs.declared.fault.ExtractFault.TheVariants as extracted
use Rattle.pol_journal.specs.declared.extent.Extent.{Extent}
use Rattle.pol_operate.specs.declared.fault.OperateFault.{OperateFault}
use Rattle.pol_operate.specs.declared.fault.OperateFault.TheVariants as operated
use Rattle.pol_cli.specs.Statuses.{no_refusal, refused_as, status_of, status_of_extracted, status_of_kept}
use Rattle.pol_cli.specs.Statuses.{status_of_operated}
use Rattle.pol_cli.specs.Tasks.{AskForDiskOf, AskForJournal, AskForKept, GoesByWords, JobEnds, PlantEnds, SerialEnds}
use Rattle.pol_cli.specs.Tasks.{TaskEnds, WritesJournal}
use Rattle.pol_cli.specs.Worked.{Disks, Edges, File, a_file, no_file}
use Rattle.pol_cli.specs.declared.status.Wanted.TheVariants.{Site, Policy}
use Rattle.pol_cli.specs.declared.status.Status.{Status}
use Rattle.pol_cli.specs.declared.status.Status.TheVariants as status

-- what holds of a task that the words mean holds of each that they mean
pub ends_as : {D L : Type 0} (words : List (List ℕ)) (one : Task) (source sink : Edges) (disk : Disks D)
    (ledger : Disks L) (file : File) (status : Status) → Means words one →
    TaskEnds one source sink disk ledger file status →
    (task : Task) → Means words task → TaskEnds task source sink disk ledger file status
ends_as words one source sink disk ledger file status means ends task other =
    subst (λ task. TaskEnds task source sink disk ledger file status) (one_task words one task means other) ends

-- ---- statuses

-- no job over lines ends so: bad words, or of the disk
abbrev IsOfNoJob : Status → Type 0
IsOfNoJob status.BadWords = Unit {0}
IsOfNoJob status.DiskFault = Unit {0}
IsOfNoJob (status.NotAStore place) = Unit {0}
IsOfNoJob (status.NotALedger place) = Unit {0}
IsOfNoJob status.InUse = Unit {0}
IsOfNoJob _ = ⊥

-- a status of a job over lines tells of no disk
of_no_disk : (words : List (List ℕ)) (now : Status) → (IsOfNoJob now → ⊥) → AskForDiskOf words now
of_no_disk words status.Good never = tt
of_no_disk words status.BadWords never = tt
of_no_disk words status.ReadFault never = tt
of_no_disk words status.WriteFault never = tt
of_no_disk words status.OutOfMemory never = tt
of_no_disk words status.TooMuchInput never = tt
of_no_disk words (status.BadSite path fault) never = tt
of_no_disk words (status.BadPolicy path fault) never = tt
of_no_disk words status.DiskFault never = absurd (never tt)
of_no_disk words (status.NotAStore place) never = absurd (never tt)
of_no_disk words (status.NotALedger place) never = absurd (never tt)
of_no_disk words status.InUse never = absurd (never tt)

-- nothing that can't come is one of them
never_refused : (reason : Infallible) → IsOfNoJob (no_refusal reason) → ⊥
never_refused = elim [ ]

-- a result of a job is none of them, where no refusal is
not_of_result : {Reason : Type 0} (refused : Reason → Status) → ((reason : Reason) → IsOfNoJob (refused reason) → ⊥) →
    (result : Result (Unit {0}) (JobFault Reason Infallible)) → IsOfNoJob (status_of refused result) → ⊥
not_of_result refused never (Ok done) none = none
not_of_result refused never (Err job.Read) none = none
not_of_result refused never (Err job.Write) none = none
not_of_result refused never (Err job.Memory) none = none
not_of_result refused never (Err job.TooMuch) none = none
not_of_result refused never (Err (job.Failed nothing)) none = never_refused nothing none
not_of_result refused never (Err (job.Refused reason)) none = never reason none

-- nor is one that ended
not_of_job : {Reason : Type 0} (output : Output Reason) (refused : Reason → Status) →
    ((reason : Reason) → IsOfNoJob (refused reason) → ⊥) → (source sink : Edges) (now : Status) →
    JobEnds output refused source sink now → IsOfNoJob now → ⊥
not_of_job output refused never source sink now ends none =
    not_of_result refused never ends.result (subst IsOfNoJob ends.told none)

-- a job of one thread has none of them
not_of_serial : (task : SerialTask) (source sink : Edges) (now : Status) → SerialEnds task source sink now →
    IsOfNoJob now → ⊥
not_of_serial Replay source sink now ends = not_of_job _ no_refusal never_refused source sink now ends
not_of_serial (Demo seed) source sink now ends = not_of_job _ no_refusal never_refused _ sink now ends.job
not_of_serial Audit source sink now ends = not_of_job _ no_refusal never_refused source sink now ends.job
not_of_serial Find source sink now ends = not_of_job _ no_refusal never_refused source sink now ends.job
not_of_serial Guard source sink now ends =
    not_of_job _ (refused_as Policy) (λ fault none. none) source sink now ends.job
not_of_serial Migrate source sink now ends = not_of_job _ no_refusal never_refused source sink now ends.job
not_of_serial Attest source sink now ends = not_of_job _ no_refusal never_refused source sink now ends.job

-- nor has a plant
not_of_plant : (source sink : Edges) (now : Status) → PlantEnds source sink now → IsOfNoJob now → ⊥
not_of_plant source sink now ends = not_of_job _ (refused_as Site) (λ fault none. none) source sink now ends.job

-- a job on a kept plant doesn't find bad words
no_bad_words : (result : Result (Unit {0}) KeepFault) → status_of_kept result ≡ status.BadWords → ⊥
no_bad_words (Ok done) is = cc
no_bad_words (Err kept.Read) is = cc
no_bad_words (Err kept.Write) is = cc
no_bad_words (Err kept.Memory) is = cc
no_bad_words (Err kept.TooMuch) is = cc
no_bad_words (Err kept.Disk) is = cc
no_bad_words (Err (kept.NotAStore place)) is = cc

-- where it tells of a disk, it is asked for
of_kept : (words : List (List ℕ)) → AskForKept words → (result : Result (Unit {0}) KeepFault) →
    AskForDiskOf words (status_of_kept result)
of_kept words asks (Ok done) = tt
of_kept words asks (Err kept.Read) = tt
of_kept words asks (Err kept.Write) = tt
of_kept words asks (Err kept.Memory) = tt
of_kept words asks (Err kept.TooMuch) = tt
of_kept words asks (Err kept.Disk) = inl asks
of_kept words asks (Err (kept.NotAStore place)) = asks

-- nor does the one on an operated plant
operated_not_bad : (result : Result (Unit {0}) OperateFault) → status_of_operated result ≡ status.BadWords → ⊥
operated_not_bad (Ok done) is = cc
operated_not_bad (Err operated.Read) is = cc
operated_not_bad (Err operated.Write) is = cc
operated_not_bad (Err operated.Memory) is = cc
operated_not_bad (Err operated.TooMuch) is = cc
operated_not_bad (Err operated.Disk) is = cc
operated_not_bad (Err (operated.NotALedger place)) is = cc
operated_not_bad (Err (operated.BadPolicy fault)) is = cc

-- where it tells of the ledger's disk, it is asked for
of_operated : (words : List (List ℕ)) → Means words Operate → (result : Result (Unit {0}) OperateFault) →
    AskForDiskOf words (status_of_operated result)
of_operated words means (Ok done) = tt
of_operated words means (Err operated.Read) = tt
of_operated words means (Err operated.Write) = tt
of_operated words means (Err operated.Memory) = tt
of_operated words means (Err operated.TooMuch) = tt
of_operated words means (Err operated.Disk) = inr means
of_operated words means (Err (operated.NotALedger place)) = inl means
of_operated words means (Err (operated.BadPolicy fault)) = tt

-- nor does one that reads its file
extracted_not_bad : (result : Result (Unit {0}) ExtractFault) → status_of_extracted result ≡ status.BadWords → ⊥
extracted_not_bad (Ok done) is = cc
extracted_not_bad (Err extracted.Read) is = cc
extracted_not_bad (Err extracted.Write) is = cc
extracted_not_bad (Err extracted.Memory) is = cc
extracted_not_bad (Err (extracted.NotALedger place)) is = cc

-- where it tells of that file, a journal is asked for
of_extracted : (words : List (List ℕ)) → AskForJournal words → (result : Result (Unit {0}) ExtractFault) →
    AskForDiskOf words (status_of_extracted result)
of_extracted words asks (Ok done) = tt
of_extracted words asks (Err extracted.Read) = inl (inr asks)
of_extracted words asks (Err extracted.Write) = tt
of_extracted words asks (Err extracted.Memory) = tt
of_extracted words asks (Err (extracted.NotALedger place)) = inr asks

-- ---- what the words have to do with the status

module _ (words : List (List ℕ)) (source sink : Edges) (now : Status) where
  -- where they mean a task
  meant_by : (task : Task) → Means words task → (now ≡ status.BadWords → ⊥) → AskForDiskOf words now →
      GoesByWords words source sink now
  meant_by task means not_bad of_disk = record {
    meant = λ other enough. (task, means);
    bad_words = λ bad. absurd (not_bad bad);
    refused = λ none. absurd (none task means);
    of_disk = of_disk;
  }

  -- one that doesn't look at the disk
  by_job : (task : Task) → Means words task → (IsOfNoJob now → ⊥) → GoesByWords words source sink now
  by_job task means never =
      meant_by task means (λ bad. never (subst IsOfNoJob (sym bad) tt)) (of_no_disk words now never)

  pub by_serial : (task : SerialTask) → Means words (Serial task) → SerialEnds task source sink now →
      GoesByWords words source sink now
  by_serial task means ends = by_job (Serial task) means (not_of_serial task source sink now ends)

  pub by_live : (task : LiveTask) → Means words (Live task) → PlantEnds source sink now →
      GoesByWords words source sink now
  by_live task means ends = by_job (Live task) means (not_of_plant source sink now ends)

  -- one on the kept plant
  pub by_kept : (task : Task) → Means words task → AskForKept words → (result : Result (Unit {0}) KeepFault) →
      now ≡ status_of_kept result → GoesByWords words source sink now
  by_kept task means asks result told =
      meant_by task means (λ bad. no_bad_words result (sym told ∙ bad))
      (subst (AskForDiskOf words) (sym told) (of_kept words asks result))

  -- one that writes a journal
  pub by_journal : {D : Type 0} (task : Task) → Means words task → AskForJournal words → (extent : Extent)
      (disk : Disks D) (file : File) → WritesJournal extent sink disk file now → GoesByWords words source sink now
  by_journal task means asks extent disk no_file writes =
      by_kept task means (inr asks) writes.job.result writes.job.told
  by_journal task means asks extent disk (a_file file) writes =
      meant_by task means (λ bad. extracted_not_bad writes.result (sym writes.told ∙ bad))
      (subst (AskForDiskOf words) (sym writes.told) (of_extracted words asks writes.result))

  -- the one on the operated plant
  pub by_operated : Means words Operate → (result : Result (Unit {0}) OperateFault) →
      now ≡ status_of_operated result → GoesByWords words source sink now
  by_operated means result told =
      meant_by Operate means (λ bad. operated_not_bad result (sym told ∙ bad))
      (subst (AskForDiskOf words) (sym told) (of_operated words means result))

-- where they mean none
pub by_none : (words : List (List ℕ)) (source sink : Edges) → ((task : Task) → Means words task → ⊥) →
    source.Untouched → sink.Untouched → GoesByWords words source sink status.BadWords
by_none words source sink none source_same sink_same = record {
  meant = λ good memory. absurd (good refl);
  bad_words = λ bad. none;
  refused = λ none. (inl refl, source_same, sink_same);
  of_disk = tt;
}

-- where there was no memory to read them
pub by_no_memory : (words : List (List ℕ)) (source sink : Edges) → source.Untouched → sink.Untouched →
    GoesByWords words source sink status.OutOfMemory
by_no_memory words source sink source_same sink_same = record {
  meant = λ good memory. absurd (memory refl);
  bad_words = λ bad task means. cc;
  refused = λ none. (inr refl, source_same, sink_same);
  of_disk = tt;
}
