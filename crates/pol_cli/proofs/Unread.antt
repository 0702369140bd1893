-- Where there was no memory to read the words, each task ended as one that had none: nothing was begun.
use Rattle.std.proofs.Common.{ℕ, ◌≡◌, ◌⊎◌, List, Bool, false, true, ap, refl, sym, inl, inr}
use Rattle.std.specs.Prelude.{Err, Option, Some, None}
use Rattle.std.specs.declared.convert.Infallible.{Infallible}
use Rattle.mtp_json.specs.declared.fault.FaultKind.{FaultKind}
use Rattle.mtp_json.specs.declared.path.PathPart.{PathPart}
use Rattle.pol_arguments.specs.declared.SerialTask.{SerialTask}
use Rattle.pol_arguments.specs.declared.SerialTask.TheVariants.{Replay, Demo, Audit, Find, Guard, Migrate, Attest}
use Rattle.pol_arguments.specs.declared.Task.{Task}
use Rattle.pol_arguments.specs.declared.Task.TheVariants.{Serial, Live, Keep, Export, Compact, Operate}
use Rattle.pol_disk.proofs.Moments.{started}
use Rattle.pol_events.specs.Events.{PlainEvent}
use Rattle.pol_io.specs.Edge.{Edge}
use Rattle.pol_io.proofs.Known.{Keeps_refl}
use Rattle.pol_jobs.specs.LineWork.{Output}
use Rattle.pol_jobs.specs.declared.fault.JobFault.TheVariants.{Memory}
use Rattle.pol_jobs.proofs.Serving.{nothing_leaves}
use Rattle.pol_find.specs.Finding.{found}
use Rattle.pol_find.specs.Starts.{BindingsStart}
use Rattle.pol_guard.specs.Guarded.{guarded}
use Rattle.pol_guard.specs.Laws.{GuardTheorem}
use Rattle.kept_jobs.specs.Leaving.{IsEarlier, KeptJob, StandsForMore}
use Rattle.kept_jobs.specs.Telling.{Telling}
use Rattle.kept_jobs.proofs.Running.{of_input}
use Rattle.pol_extract.specs.declared.fault.ExtractFault.TheVariants as extracted
use Rattle.pol_journal.specs.declared.extent.Extent.{Extent}
use Rattle.pol_journal.specs.declared.extent.Extent.TheVariants.{Whole, Compacted}
use Rattle.pol_keep.specs.Exported.{exported_output, no_input}
use Rattle.pol_keep.specs.Keeping.{plant_job}
use Rattle.pol_keep.specs.Kept.{kept_output}
use Rattle.pol_keep.specs.declared.fault.KeepFault.TheVariants as kept
use Rattle.pol_ledger.specs.Work.{ledger_work}
use Rattle.pol_migration.specs.Job.{migrating}
use Rattle.pol_migration.specs.Migration.{MigrationKeepsOutputs}
use Rattle.pol_operate.specs.Asked.{OperatedIsRun}
use Rattle.pol_operate.specs.Kept.{operate_job}
use Rattle.pol_operate.specs.Laws.{LinesAreGuarded}
use Rattle.pol_operate.specs.QuestionLaws.{QuestionsChangeNothing}
use Rattle.pol_operate.specs.declared.fault.OperateFault.TheVariants as operated
use Rattle.pol_replay.specs.Replay.{replayed}
use Rattle.pol_kept.specs.Work.{ChronicleWork}
use Rattle.pol_store.specs.Stands.{StandsFor}
use Rattle.pol_store.specs.Work.{plant_work}
use Rattle.pol_cli.specs.Audits.{AuditTheorem, audited}
use Rattle.pol_cli.specs.Keeping.{KeepsInput}
use Rattle.pol_cli.specs.SiteRuns.{planted}
use Rattle.pol_cli.specs.Attests.{attested}
use Rattle.pol_cli.specs.Compacting.{CompactionTheorem}
use Rattle.pol_cli.specs.Statuses.{no_refusal, refused_as}
use Rattle.pol_cli.specs.Tasks.{ExportEnds, JobEnds, JournalEnds, KeepingEnds, KeptEnds, OperatingEnds, SerialEnds}
use Rattle.pol_cli.specs.Tasks.{TaskEnds, WritesJournal, demonstrated}
use Rattle.pol_cli.specs.Worked.{Disks, Edges, File, a_file, file_of, no_file}
use Rattle.pol_cli.specs.declared.status.Wanted.TheVariants.{Site, Policy}
use Rattle.pol_cli.specs.declared.status.Status.{Status}
use Rattle.pol_cli.specs.declared.status.Status.TheVariants as status
use Rattle.pol_cli.proofs.Ending.{job_ends}

-- what the records say of the jobs' laws
pub record JobLaws : Type 0 where
  pub audits : (bytes : List ℕ) → AuditTheorem bytes
  pub guards : (bytes : List ℕ) → GuardTheorem bytes
  pub migrations : MigrationKeepsOutputs
  pub compaction : CompactionTheorem
  pub bindings : BindingsStart
  pub operated : LinesAreGuarded
  pub operations : OperatedIsRun
  pub questions : QuestionsChangeNothing

-- a source or a sink that was left as it was
abbrev pub rested : Edge → (Same : Type 0) → Edges
rested edge Same = record { before = edge; after = edge; Untouched = Same }

-- a disk that was
abbrev pub rested_disk : {D : Type 0} → Telling D → D → Disks D
rested_disk tells disk = record { tells = tells; before = disk; after = disk }

-- a file that was
abbrev pub IsRested : File → Type 0
IsRested no_file = Unit {0}
IsRested (a_file file) = file.before ≡ file.after

-- one that wasn't looked at was
pub file_rested : {F : Type 0} (bytes : F → Option (List ℕ)) (faults : F → ℕ) (file : Option F) →
    IsRested (file_of bytes faults file file)
file_rested bytes faults None = tt
file_rested bytes faults (Some file) = refl

-- with no memory all isn't good
not_good : status.OutOfMemory ≡ status.Good → ⊥
not_good is = cc

-- no policy was refused
not_refused : (path : List PathPart) (fault : FaultKind) → status.OutOfMemory ≡ status.BadPolicy path fault → ⊥
not_refused path fault is = cc

-- the disk didn't fail
not_failed : status.OutOfMemory ≡ status.DiskFault → ⊥
not_failed is = cc

-- and it isn't told to be no store
not_stored : (place : ℕ) → status.OutOfMemory ≡ status.NotAStore place → ⊥
not_stored place is = cc

-- nor no ledger
not_ledger : (place : ℕ) → status.OutOfMemory ≡ status.NotALedger place → ⊥
not_ledger place is = cc

module _ (source sink : Edge) (SameSource SameSink : Type 0) (source_same : SameSource) (sink_same : SameSink) where
  -- a job over lines
  no_memory_ends : {Reason : Type 0} (output : Output Reason) (refused : Reason → Status) (source : Edge)
      (Same : Type 0) →
      JobEnds output refused (rested source Same) (rested sink SameSink) status.OutOfMemory
  no_memory_ends output refused source Same =
      job_ends output output refused (rested source Same) (rested sink SameSink) (Err Memory) refl
      (nothing_leaves output sink.bytes source.bytes, refl, refl)

  -- one of one thread
  serial_unbegun : JobLaws → (task : SerialTask) →
      SerialEnds task (rested source SameSource) (rested sink SameSink) status.OutOfMemory
  unfolding no_memory_ends job_ends
  serial_unbegun laws Replay = no_memory_ends replayed no_refusal source SameSource
  serial_unbegun laws (Demo seed) =
      record { job = no_memory_ends (demonstrated seed) no_refusal no_input (Unit {0}); unread = source_same }
  serial_unbegun laws Audit =
      record { job = no_memory_ends audited no_refusal source SameSource; audits = laws.audits }
  serial_unbegun laws Find =
      record { job = no_memory_ends found no_refusal source SameSource; bindings = laws.bindings }
  serial_unbegun laws Guard = record {
    job = no_memory_ends guarded (refused_as Policy) source SameSource;
    unwritten = λ path fault is. absurd (not_refused path fault is);
    guards = laws.guards;
  }
  serial_unbegun laws Migrate =
      record { job = no_memory_ends migrating no_refusal source SameSource; migrations = laws.migrations }
  serial_unbegun laws Attest =
      record { job = no_memory_ends attested no_refusal source SameSource; audits = laws.audits }

  module _ {D : Type 0} (tells : Telling D) (disk : D)
      (only_now : (image : List ℕ) → tells.left_since disk (tells.moment disk) image → tells.images disk image) where
    -- one on a kept plant
    kept_unbegun : (output : List PlainEvent → Output Infallible) (source : Edge) (Same : Type 0) → Same →
        KeptEnds output (rested source Same) (rested sink SameSink) (rested_disk tells disk) status.OutOfMemory
    kept_unbegun output source Same same = record {
      result = Err kept.Memory;
      told = refl;
      ends = inl (refl, refl);
      begins = λ all later told still none well. inr refl;
      disk_cause = λ is. absurd (not_failed is);
      no_store = λ place is. absurd (not_stored place is);
      untouched = λ place is. (same, sink_same);
    }

    -- what a crash left before is of before the first line
    earlier : {State Item Answer : Type 0} (work : ChronicleWork State Item Answer) (begins : Bool) (old : List Item)
        (image : List ℕ) → tells.images disk image → IsEarlier work tells begins disk old image
    earlier work false old image crash = crash
    earlier work true old image crash = inl crash

    -- and nothing else is left
    keeps_unbegun : {State Item Answer : Type 0} (work : ChronicleWork State Item Answer) (job : KeptJob Item) →
        KeepsInput work job (rested source SameSource) (rested sink SameSink) (rested_disk tells disk)
        status.OutOfMemory
    keeps_unbegun work job = record {
      lines = record {
        moments = λ old reads told. of_input source.bytes _ (λ input. started tells.moment tells.left_since disk
            (λ image. IsEarlier work tells job.begins disk old image
            ⊎ StandsForMore work (job.items_with old) input image)
            (λ image since. inl (earlier work job.begins old image (only_now image since))));
        kept = λ old reads told. of_input source.bytes _
            (λ input image crash. inl (refl, earlier work job.begins old image crash));
      };
      all = λ good. absurd (not_good good);
    }

    -- the replay there
    keeping_unbegun : KeepingEnds (rested source SameSource) (rested sink SameSink) (rested_disk tells disk)
        status.OutOfMemory
    keeping_unbegun = record {
      job = kept_unbegun kept_output source SameSource source_same;
      keeps = keeps_unbegun plant_work plant_job;
    }

    -- the journal of a kept plant
    export_unbegun : (extent : Extent) →
        ExportEnds extent (rested sink SameSink) (rested_disk tells disk) status.OutOfMemory
    export_unbegun extent = record {
      job = kept_unbegun (exported_output extent) no_input (Unit {0}) tt;
      holds = record {
        events = λ old reads told. started tells.moment tells.left_since disk
            (λ image. tells.images disk image ⊎ StandsFor old image) (λ image since. inl (only_now image since));
        all = λ good. absurd (not_good good);
      };
    }

    -- that of an operated one, where there is its file
    writes_unbegun : (extent : Extent) (file : File) → IsRested file →
        WritesJournal extent (rested sink SameSink) (rested_disk tells disk) file status.OutOfMemory
    writes_unbegun extent no_file rest = export_unbegun extent
    writes_unbegun extent (a_file file) rest = record {
      result = Err extracted.Memory;
      told = refl;
      ends = (inl sink_same, sym (ap (λ (edge : Edge). edge.faults) rest), refl);
      unkept = refl;
    }

    -- either
    journal_unbegun : (extent : Extent) (file : File) → IsRested file →
        JournalEnds extent (rested source SameSource) (rested sink SameSink) (rested_disk tells disk) file
        status.OutOfMemory
    journal_unbegun extent file rest =
        record { writes = writes_unbegun extent file rest; unread = source_same }

    -- one on an operated plant
    operating_unbegun : JobLaws → OperatingEnds (rested source SameSource) (rested sink SameSink)
        (rested_disk tells disk) status.OutOfMemory
    operating_unbegun laws = record {
      job = record {
        result = Err operated.Memory;
        told = refl;
        ends = inl (refl, refl);
        begins = λ all later told still none well. inr refl;
        unsaid = λ path fault is. absurd (not_refused path fault is);
        unwritten = λ path fault is. absurd (not_refused path fault is);
        disk_cause = λ is. absurd (not_failed is);
        no_ledger = λ place is. absurd (not_ledger place is);
        untouched = λ place is. (source_same, sink_same);
      };
      keeps = keeps_unbegun ledger_work operate_job;
      guards = laws.operated;
      runs = laws.operations;
      questions = laws.questions;
    }

  module _ {D L : Type 0} (tells : Telling D) (disk : D)
      (only_now : (image : List ℕ) → tells.left_since disk (tells.moment disk) image → tells.images disk image)
      (told : Telling L) (ledger : L)
      (only_then : (image : List ℕ) → told.left_since ledger (told.moment ledger) image → told.images ledger image)
    where
      -- any task
      pub unbegun_ends : JobLaws → (task : Task) →
          (file : File) → IsRested file →
          TaskEnds task (rested source SameSource) (rested sink SameSink) (rested_disk tells disk)
          (rested_disk told ledger) file status.OutOfMemory
      unfolding no_memory_ends job_ends
      unbegun_ends laws (Serial task) file rest = serial_unbegun laws task
      unbegun_ends laws (Live task) file rest = record {
        job = no_memory_ends planted (refused_as Site) source SameSource;
        writes = inl (Keeps_refl sink.bytes);
        unbegun = λ good write memory. absurd (memory refl);
      }
      unbegun_ends laws Keep file rest = keeping_unbegun tells disk only_now
      unbegun_ends laws Export file rest = journal_unbegun tells disk only_now Whole file rest
      unbegun_ends laws Compact file rest = record {
        journal = journal_unbegun tells disk only_now Compacted file rest;
        compaction = laws.compaction;
      }
      unbegun_ends laws Operate file rest = operating_unbegun told ledger only_then laws
