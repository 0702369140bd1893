-- How each task ended, a record for each, and what the words have to do with it.
use Rattle.std.specs.Prelude.{ℕ, ◌≡◌, ◌≢◌, ◌⊎◌, List, [], Result, IfSome}
use Rattle.std.specs.Io.KnownBytes.{Keeps}
use Rattle.std.specs.declared.convert.Infallible.{Infallible}
use Rattle.mtp_json.specs.declared.fault.FaultKind.{FaultKind}
use Rattle.mtp_json.specs.declared.path.PathPart.{PathPart}
use Rattle.pol_disk.specs.Disks.{told_through}
use Rattle.pol_events.specs.Events.{PlainEvent}
use Rattle.pol_io.specs.Known.{Between}
use Rattle.pol_arguments.specs.Words.{Means}
use Rattle.pol_arguments.specs.declared.SerialTask.{SerialTask}
use Rattle.pol_arguments.specs.declared.SerialTask.TheVariants.{Replay, Demo, Audit, Attest, Find, Guard, Migrate}
use Rattle.pol_arguments.specs.declared.Task.{Task}
use Rattle.pol_arguments.specs.declared.Task.TheVariants.{Serial, Live, Keep, Export, Compact, Operate}
use Rattle.pol_demo.specs.Summary.{demo_output}
use Rattle.pol_jobs.specs.Ends.{Completes, Ends}
use Rattle.pol_jobs.specs.LineWork.{Output, texts_of}
use Rattle.pol_jobs.specs.declared.fault.JobFault.{JobFault}
use Rattle.pol_cli.specs.Attests.{attested}
use Rattle.pol_cli.specs.Audits.{AuditTheorem, audited}
use Rattle.pol_cli.specs.Compacting.{CompactionTheorem}
use Rattle.pol_find.specs.Finding.{found}
use Rattle.pol_find.specs.Starts.{BindingsStart}
use Rattle.pol_guard.specs.Guarded.{guarded}
use Rattle.pol_guard.specs.Laws.{GuardTheorem}
use Rattle.pol_extract.specs.Extracts.{ExtractEnds}
use Rattle.pol_extract.specs.declared.fault.ExtractFault.{ExtractFault}
use Rattle.pol_journal.specs.declared.extent.Extent.{Extent}
use Rattle.pol_journal.specs.declared.extent.Extent.TheVariants.{Whole, Compacted}
use Rattle.pol_keep.specs.Exported.{exported_output}
use Rattle.pol_keep.specs.Keeping.{plant_job}
use Rattle.pol_keep.specs.Kept.{KeepEnds, kept_output}
use Rattle.pol_keep.specs.declared.fault.KeepFault.{KeepFault}
use Rattle.pol_migration.specs.Job.{migrating}
use Rattle.pol_migration.specs.Migration.{MigrationKeepsOutputs}
use Rattle.pol_replay.specs.Replay.{replayed}
use Rattle.pol_kept.specs.Opens as of_items
use Rattle.pol_ledger.specs.Work.{ledger_work}
use Rattle.pol_operate.specs.Asked.{OperatedIsRun}
use Rattle.pol_operate.specs.Ends.{OperateEnds}
use Rattle.pol_operate.specs.Kept.{operate_job}
use Rattle.pol_operate.specs.Laws.{LinesAreGuarded}
use Rattle.pol_operate.specs.QuestionLaws.{QuestionsChangeNothing}
use Rattle.pol_operate.specs.declared.fault.OperateFault.{OperateFault}
use Rattle.pol_store.specs.Opens.{IsNoStore}
use Rattle.pol_store.specs.Work.{plant_work}
use Rattle.pol_cli.specs.Keeping.{BeginsOnStores, DiskFailed, HoldsEvents, KeepsInput}
use Rattle.pol_cli.specs.Operating.{BeginsOnLedgers, HasNoPolicy}
use Rattle.pol_cli.specs.SiteRuns.{RunWrites, planted}
use Rattle.pol_cli.specs.Statuses.{no_refusal, refused_as, status_of, status_of_extracted, status_of_kept}
use Rattle.pol_cli.specs.Statuses.{status_of_operated}
use Rattle.pol_cli.specs.Worked.{Disks, Edges, File, a_file, no_file, no_source}
use Rattle.pol_cli.specs.declared.status.Wanted.TheVariants.{Site, Policy}
use Rattle.pol_cli.specs.declared.status.Status.{Status}
use Rattle.pol_cli.specs.declared.status.Status.TheVariants.{Good, BadWords, WriteFault, OutOfMemory}
use Rattle.pol_cli.specs.declared.status.Status.TheVariants.{BadPolicy, DiskFault, NotAStore, NotALedger, InUse}

-- the output of the demo of a seed: nothing for lines, and in all the summary of its journal
abbrev pub demonstrated : ℕ → Output Infallible
demonstrated seed = texts_of (λ lines. []) (λ input. demo_output seed)

-- ---- how a job ended

-- How a job with this output ended, by its source and its sink: with some result, whose status this is and whose row of
-- `Ends` holds; and where nothing failed the result is the one that is due.
pub record JobEnds {Reason : Type 0} (output : Output Reason) (refused : Reason → Status)
    (source sink : Edges) (status : Status) : Type 0 where
  pub result : Result (Unit {0}) (JobFault Reason Infallible)
  pub told : status ≡ status_of refused result
  pub ends : Ends output source.before source.after sink.before sink.after result
  pub complete : Completes output source.before source.after sink.before sink.after result

-- how a demo of this seed ended
pub record DemoEnds (seed : ℕ) (source sink : Edges) (status : Status) : Type 0 where
  -- its output is that of no input, whatever the source has
  pub job : JobEnds (demonstrated seed) no_refusal no_source sink status
  -- the source isn't read
  pub unread : source.Untouched

-- how an audit ended
pub record AuditEnds (source sink : Edges) (status : Status) : Type 0 where
  -- its output is the verdict over its input
  pub job : JobEnds audited no_refusal source sink status
  -- whatever the input: where the verdict is good, it spells a true history
  pub audits : (bytes : List ℕ) → AuditTheorem bytes

-- how an audit ended that says which bytes it read
pub record AttestEnds (source sink : Edges) (status : Status) : Type 0 where
  -- its output is the verdict over its input, and the size and the checksum of the input
  pub job : JobEnds attested no_refusal source sink status
  -- whatever the input: where the verdict is good, it spells a true history
  pub audits : (bytes : List ℕ) → AuditTheorem bytes

-- how a finder ended
pub record FindEnds (source sink : Edges) (status : Status) : Type 0 where
  -- its output is a binding or a shortage of each recipe of its input
  pub job : JobEnds found no_refusal source sink status
  -- after any history: a start with such a binding is done
  pub bindings : BindingsStart

-- how a guard ended
pub record GuardEnds (source sink : Edges) (status : Status) : Type 0 where
  -- its output is that of its journal under its policy; an input without one is refused
  pub job : JobEnds guarded (refused_as Policy) source sink status
  -- where the policy is refused nothing is written, whatever the source gives
  pub unwritten : (path : List PathPart) (fault : FaultKind) → status ≡ BadPolicy path fault →
      Keeps sink.before.bytes sink.after.bytes
  -- whatever the input: no command goes to the plant but those that the policy allows
  pub guards : (bytes : List ℕ) → GuardTheorem bytes

-- how a migration ended
pub record MigrationEnds (source sink : Edges) (status : Status) : Type 0 where
  -- its output is the journal of today that its input becomes
  pub job : JobEnds migrating no_refusal source sink status
  -- whatever the input: the new journal has the output of the old one, without its fault lines
  pub migrations : MigrationKeepsOutputs

-- how a plant ended
pub record PlantEnds (source sink : Edges) (status : Status) : Type 0 where
  -- its output is the history of a run of the site that its input says; an input that says none is refused
  pub job : JobEnds planted (refused_as Site) source sink status
  -- what it wrote, whether the source gives its bytes or not
  pub writes : RunWrites source.before.bytes source.after.bytes sink.before.bytes sink.after.bytes job.result
  -- nothing is written but at 0, and at 4 and 5, where some may be
  pub unbegun : status ≢ Good → status ≢ WriteFault → status ≢ OutOfMemory → sink.Untouched

-- ---- how a job on a kept plant ended

-- How a job on a kept plant ended, with this output of the old events, by its source, its sink and its disk: with some
-- result, whose status this is and whose row of `KeepEnds` holds.
pub record KeptEnds {D : Type 0} (output : List PlainEvent → Output Infallible) (source sink : Edges) (disk : Disks D)
    (status : Status) : Type 0 where
  pub result : Result (Unit {0}) KeepFault
  pub told : status ≡ status_of_kept result
  pub ends : KeepEnds output (told_through (disk.tells.bytes disk.before) (disk.tells.bytes disk.after))
      source.before source.after sink.before sink.after result
  -- on a disk that is no store nothing is begun
  pub begins : BeginsOnStores disk status
  -- 10 only where the disk failed
  pub disk_cause : status ≡ DiskFault → DiskFailed disk
  -- 11 only where it didn't, and its bytes stand for no events: the first record that isn't one is at this place
  pub no_store : (place : ℕ) → status ≡ NotAStore place →
      (disk.tells.faults disk.after ≡ disk.tells.faults disk.before)
      × IfSome (disk.tells.bytes disk.after) (λ all. IsNoStore all place)
  -- with 11 nothing was read or written
  pub untouched : (place : ℕ) → status ≡ NotAStore place → source.Untouched × sink.Untouched

-- how a replay on a kept plant ended
pub record KeepingEnds {D : Type 0} (source sink : Edges) (disk : Disks D) (status : Status) : Type 0 where
  -- its output is that of a replay behind the events that the disk read as
  pub job : KeptEnds kept_output source sink disk status
  -- what the disk holds at the end, and what a crash at any moment leaves
  pub keeps : KeepsInput plant_work plant_job source sink disk status

-- how a job ended that writes the journal of a kept plant
pub record ExportEnds {D : Type 0} (extent : Extent) (sink : Edges) (disk : Disks D) (status : Status) : Type 0 where
  -- its output is the journal of this extent of the events that the disk read as, and it needs no input
  pub job : KeptEnds (exported_output extent) no_source sink disk status
  -- nothing happens to these events, whenever a crash comes
  pub holds : HoldsEvents disk status

-- how a job ended that writes the journal of an operated plant, by the file that it read: with some result, whose
-- status this is and whose row of `ExtractEnds` holds; the disk of a kept plant is as it was
pub record ExtractingEnds {D : Type 0} (extent : Extent) (file sink : Edges) (disk : Disks D) (status : Status) : Type 0
  where
    pub result : Result (Unit {0}) ExtractFault
    pub told : status ≡ status_of_extracted result
    pub ends : ExtractEnds extent file.before file.after sink.before sink.after sink.Untouched result
    pub unkept : disk.after ≡ disk.before

-- the journal of the plant of this folder was written: of an operated plant where there is its file, and else of the
-- kept one
abbrev pub WritesJournal : {D : Type 0} → Extent → Edges → Disks D → File → Status → Type 0
WritesJournal extent sink disk no_file status = ExportEnds extent sink disk status
WritesJournal extent sink disk (a_file file) status = ExtractingEnds extent file sink disk status

-- how a job that writes a journal ended
pub record JournalEnds {D : Type 0} (extent : Extent) (source sink : Edges) (disk : Disks D) (file : File)
    (status : Status) : Type 0 where
  pub writes : WritesJournal extent sink disk file status
  -- the source isn't read
  pub unread : source.Untouched

-- how a compaction ended
pub record CompactEnds {D : Type 0} (source sink : Edges) (disk : Disks D) (file : File) (status : Status) : Type 0
  where
    -- its output is the journal of the events that stay
    pub journal : JournalEnds Compacted source sink disk file status
    -- whatever the events: the plant goes on from what stays as from all of them
    pub compaction : CompactionTheorem

-- How the job on an operated plant ended, by its source, its sink and its ledger's disk: with some result, whose status
-- this is and whose row of `OperateEnds` holds.
pub record OperatedEnds {D : Type 0} (source sink : Edges) (ledger : Disks D) (status : Status) : Type 0 where
  pub result : Result (Unit {0}) OperateFault
  pub told : status ≡ status_of_operated result
  pub ends : OperateEnds (told_through (ledger.tells.bytes ledger.before) (ledger.tells.bytes ledger.after))
      source.before source.after sink.before sink.after result
  -- on a disk that is no ledger nothing is begun
  pub begins : BeginsOnLedgers ledger status
  -- 9 only where the input has no policy
  pub unsaid : (path : List PathPart) (fault : FaultKind) → status ≡ BadPolicy path fault →
      Between (λ bytes left. HasNoPolicy (record { kind = fault; path = path }) bytes)
      source.before.bytes source.after.bytes
  -- with 9 nothing is written, whatever the source gives
  pub unwritten : (path : List PathPart) (fault : FaultKind) → status ≡ BadPolicy path fault →
      Keeps sink.before.bytes sink.after.bytes
  -- 10 only where the disk failed
  pub disk_cause : status ≡ DiskFault → DiskFailed ledger
  -- 12 only where it didn't, and its bytes stand for no items: the first record that doesn't follow is at this place
  pub no_ledger : (place : ℕ) → status ≡ NotALedger place →
      (ledger.tells.faults ledger.after ≡ ledger.tells.faults ledger.before)
      × IfSome (ledger.tells.bytes ledger.after) (λ all. of_items.IsNoStore ledger_work all place)
  -- with 12 nothing was read or written
  pub untouched : (place : ℕ) → status ≡ NotALedger place → source.Untouched × sink.Untouched

-- how an operated plant ended
pub record OperatingEnds {D : Type 0} (source sink : Edges) (ledger : Disks D) (status : Status) : Type 0 where
  -- its output is that of the lines behind the policy, on the ledger that the disk read as
  pub job : OperatedEnds source sink ledger status
  -- what the disk holds at the end, and what a crash at any moment leaves
  pub keeps : KeepsInput ledger_work operate_job source sink ledger status
  -- whatever a line says: what it asks is allowed to whom it names, and a denial names its rule
  pub guards : LinesAreGuarded
  -- whatever the ledger and the lines: the history behind them is the run of the old events and of those they ask for
  pub runs : OperatedIsRun
  -- whatever the lines: leaving their questions out leaves out just the replies to these, and what an event would be
  -- answered is the reply to its line
  pub questions : QuestionsChangeNothing

-- ---- how a task ended

-- how a job of one thread ended
abbrev pub SerialEnds : SerialTask → Edges → Edges → Status → Type 0
SerialEnds Replay source sink status = JobEnds replayed no_refusal source sink status
SerialEnds (Demo seed) source sink status = DemoEnds seed source sink status
SerialEnds Audit source sink status = AuditEnds source sink status
SerialEnds Attest source sink status = AttestEnds source sink status
SerialEnds Find source sink status = FindEnds source sink status
SerialEnds Guard source sink status = GuardEnds source sink status
SerialEnds Migrate source sink status = MigrationEnds source sink status

-- how a task ended; the jobs on the kept plant alone look at the disk, the one on the operated plant at the ledger, and
-- those that write a journal at the file of an operated plant, where there is one to read
abbrev pub TaskEnds : {D L : Type 0} → Task → Edges → Edges → Disks D → Disks L → File → Status → Type 0
TaskEnds (Serial task) source sink disk ledger file status = SerialEnds task source sink status
TaskEnds (Live task) source sink disk ledger file status = PlantEnds source sink status
TaskEnds Keep source sink disk ledger file status = KeepingEnds source sink disk status
TaskEnds Export source sink disk ledger file status = JournalEnds Whole source sink disk file status
TaskEnds Compact source sink disk ledger file status = CompactEnds source sink disk file status
TaskEnds Operate source sink disk ledger file status = OperatingEnds source sink ledger status

-- ---- what the words have to do with it

-- the words ask for a journal
abbrev pub AskForJournal : List (List ℕ) → Type 0
AskForJournal words = Means words Export ⊎ Means words Compact

-- the words ask for a job that may look at the disk of a kept plant
abbrev pub AskForKept : List (List ℕ) → Type 0
AskForKept words = Means words Keep ⊎ AskForJournal words

-- the words ask for a job that may end with this status: with 10 one on a kept or an operated plant, with 11 one on a
-- kept plant, with 12 one on an operated plant, with 13 none, since the program alone returns it, and with another any
abbrev pub AskForDiskOf : List (List ℕ) → Status → Type 0
AskForDiskOf words DiskFault = AskForKept words ⊎ Means words Operate
AskForDiskOf words (NotAStore place) = AskForKept words
AskForDiskOf words (NotALedger place) = Means words Operate ⊎ AskForJournal words
AskForDiskOf words InUse = ⊥
AskForDiskOf words _ = Unit {0}

-- Which status comes where the words mean a task, and where they mean none.
pub record GoesByWords (words : List (List ℕ)) (source sink : Edges) (status : Status) : Type 0 where
  -- a status other than 2 and 5 comes only where the words mean a task
  pub meant : status ≢ BadWords → status ≢ OutOfMemory → (task : Task) × Means words task
  -- 2 comes only where the words mean no task
  pub bad_words : status ≡ BadWords → (task : Task) → Means words task → ⊥
  -- where they mean none 2 comes, or 5 without memory, and source and sink are as they were
  pub refused : ((task : Task) → Means words task → ⊥) →
      ((status ≡ BadWords) ⊎ (status ≡ OutOfMemory)) × source.Untouched × sink.Untouched
  -- 10, 11 and 12 come only where the words ask for a job on the disk that these are about, and 13 never
  pub of_disk : AskForDiskOf words status
