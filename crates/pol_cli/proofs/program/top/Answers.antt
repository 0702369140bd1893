use Rattle.pol_arguments.specs.Words.{texts_of}
use Rattle.pol_arguments.specs.declared.Task.TheVariants.{Compact, Export, Keep, Live, Operate, Serial}
use Rattle.std.proofs.Common.{◌≡◌, inl, inr, refl}
use Rattle.pol_jobs.specs.Ends.{edge}
use Rattle.kept_jobs.specs.Telling.{telling}
use Rattle.pol_cli.specs.Worked.{disks, edges, file_of}
use Rattle.pol_cli.proofs.Asked.{by_journal, by_kept, by_live, by_no_memory, by_none, by_operated, by_serial, ends_as}
use Rattle.pol_cli.proofs.Unread.{file_rested, unbegun_ends}
use Rattle.pol_cli.proofs.program.top.Goals as goal

-- ---- a job of one thread

pub returns-in-Ok-Serial-clause-ends : goal.returns-in-Ok-Serial-clause-ends
returns-in-Ok-Serial-clause-ends g c =
    ends_as (texts_of c.args.words.now) (Serial c.in-Ok-Serial.task) _ _ _ _ _ _
    (rw c.in-Ok-Serial.field-0-is at c.in-Ok-Serial.ensures.ok) c.serve.ensures.ends

pub returns-in-Ok-Serial-clause-words : goal.returns-in-Ok-Serial-clause-words
returns-in-Ok-Serial-clause-words g c =
    by_serial (texts_of c.args.words.now) _ _ _ c.in-Ok-Serial.task
    (rw c.in-Ok-Serial.field-0-is at c.in-Ok-Serial.ensures.ok) c.serve.ensures.ends

-- ---- a plant

pub returns-in-Ok-Live-clause-ends : goal.returns-in-Ok-Live-clause-ends
returns-in-Ok-Live-clause-ends g c =
    ends_as (texts_of c.args.words.now) (Live c.in-Ok-Live.task) _ _ _ _ _ _
    (rw c.in-Ok-Live.field-0-is at c.in-Ok-Live.ensures.ok) c.live-status.ensures.ends

pub returns-in-Ok-Live-clause-words : goal.returns-in-Ok-Live-clause-words
returns-in-Ok-Live-clause-words g c =
    by_live (texts_of c.args.words.now) _ _ _ c.in-Ok-Live.task
    (rw c.in-Ok-Live.field-0-is at c.in-Ok-Live.ensures.ok) c.live-status.ensures.ends

-- ---- the kept plant

pub returns-in-Ok-Keep-clause-ends : goal.returns-in-Ok-Keep-clause-ends
returns-in-Ok-Keep-clause-ends g c =
    ends_as (texts_of c.args.words.now) Keep _ _ _ _ _ _ (rw c.in-Ok-Keep.field-0-is at c.in-Ok-Keep.ensures.ok)
    c.keep-status.ensures.ends

pub returns-in-Ok-Keep-clause-words : goal.returns-in-Ok-Keep-clause-words
returns-in-Ok-Keep-clause-words g c =
    let means = (rw c.in-Ok-Keep.field-0-is at c.in-Ok-Keep.ensures.ok) in
    by_kept (texts_of c.args.words.now) _ _ _ Keep means (inl means) c.keep-status.ensures.ends.job.result
    c.keep-status.ensures.ends.job.told

pub returns-in-Ok-Keep-clause-unkept : goal.returns-in-Ok-Keep-clause-unkept
returns-in-Ok-Keep-clause-unkept g c = λ not. absurd (not (inl (rw c.in-Ok-Keep.field-0-is at c.in-Ok-Keep.ensures.ok)))

-- ---- a journal

pub returns-in-Ok-Export-clause-ends : goal.returns-in-Ok-Export-clause-ends
returns-in-Ok-Export-clause-ends g c =
    let d = g.D.Disk in
    ends_as (texts_of c.args.words.now) Export
    (edges g.S.Source.left g.S.Source.faults c.args.source.now c.args.source.now)
    (edges g.K.Sink.held g.K.Sink.faults c.args.sink.now c.export-status.new.sink)
    (disks d.bytes d.images d.moment d.left_since d.faults c.args.disk c.export-status.result.1) _ _
    c.export-status.result.0
    (rw c.in-Ok-Export.field-0-is at c.in-Ok-Export.ensures.ok)
    (record { writes = c.export-status.ensures.ends; unread = refl })

pub returns-in-Ok-Export-clause-words : goal.returns-in-Ok-Export-clause-words
returns-in-Ok-Export-clause-words g c =
    let means = (rw c.in-Ok-Export.field-0-is at c.in-Ok-Export.ensures.ok) in
    by_journal (texts_of c.args.words.now) _ _ _ Export means (inl means) _ _ _ c.export-status.ensures.ends

pub returns-in-Ok-Export-clause-unkept : goal.returns-in-Ok-Export-clause-unkept
returns-in-Ok-Export-clause-unkept g c =
    λ not. absurd (not (inr (inl (rw c.in-Ok-Export.field-0-is at c.in-Ok-Export.ensures.ok))))

pub returns-in-Ok-Export-clause-unexported : goal.returns-in-Ok-Export-clause-unexported
returns-in-Ok-Export-clause-unexported g c =
    λ not. absurd (not (inl (rw c.in-Ok-Export.field-0-is at c.in-Ok-Export.ensures.ok)))

pub returns-in-Ok-Compact-clause-ends : goal.returns-in-Ok-Compact-clause-ends
returns-in-Ok-Compact-clause-ends g c =
    let d = g.D.Disk in
    ends_as (texts_of c.args.words.now) Compact
    (edges g.S.Source.left g.S.Source.faults c.args.source.now c.args.source.now)
    (edges g.K.Sink.held g.K.Sink.faults c.args.sink.now c.export-status-in-Ok-Compact.new.sink)
    (disks d.bytes d.images d.moment d.left_since d.faults c.args.disk c.export-status-in-Ok-Compact.result.1) _ _
    c.export-status-in-Ok-Compact.result.0
    (rw c.in-Ok-Compact.field-0-is at c.in-Ok-Compact.ensures.ok)
    (record {
      journal = record { writes = c.export-status-in-Ok-Compact.ensures.ends; unread = refl };
      compaction = c.laws_hold.ensures.compaction;
    })

pub returns-in-Ok-Compact-clause-words : goal.returns-in-Ok-Compact-clause-words
returns-in-Ok-Compact-clause-words g c =
    let means = (rw c.in-Ok-Compact.field-0-is at c.in-Ok-Compact.ensures.ok) in
    by_journal (texts_of c.args.words.now) _ _ _ Compact means (inr means) _ _ _ c.export-status-in-Ok-Compact.ensures.ends

pub returns-in-Ok-Compact-clause-unkept : goal.returns-in-Ok-Compact-clause-unkept
returns-in-Ok-Compact-clause-unkept g c =
    λ not. absurd (not (inr (inr (rw c.in-Ok-Compact.field-0-is at c.in-Ok-Compact.ensures.ok))))

pub returns-in-Ok-Compact-clause-unexported : goal.returns-in-Ok-Compact-clause-unexported
returns-in-Ok-Compact-clause-unexported g c =
    λ not. absurd (not (inr (rw c.in-Ok-Compact.field-0-is at c.in-Ok-Compact.ensures.ok)))

-- ---- the operated plant

pub returns-in-Ok-Operate-clause-ends : goal.returns-in-Ok-Operate-clause-ends
returns-in-Ok-Operate-clause-ends g c =
    ends_as (texts_of c.args.words.now) Operate _ _ _ _ _ _
    (rw c.in-Ok-Operate.field-0-is at c.in-Ok-Operate.ensures.ok) c.operate-status.ensures.ends

pub returns-in-Ok-Operate-clause-words : goal.returns-in-Ok-Operate-clause-words
returns-in-Ok-Operate-clause-words g c =
    by_operated (texts_of c.args.words.now) _ _ _ (rw c.in-Ok-Operate.field-0-is at c.in-Ok-Operate.ensures.ok)
    c.operate-status.ensures.ends.job.result c.operate-status.ensures.ends.job.told

pub returns-in-Ok-Operate-clause-unoperated : goal.returns-in-Ok-Operate-clause-unoperated
returns-in-Ok-Operate-clause-unoperated g c =
    λ not. absurd (not (rw c.in-Ok-Operate.field-0-is at c.in-Ok-Operate.ensures.ok))

-- ---- no task

pub returns-in-Err-Refused-clause-ends : goal.returns-in-Err-Refused-clause-ends
returns-in-Err-Refused-clause-ends g c =
    λ task means. absurd (c.in-Err-Refused.ensures.refused c.in-Err-Refused.field-0-is task means)

pub returns-in-Err-Refused-clause-words : goal.returns-in-Err-Refused-clause-words
returns-in-Err-Refused-clause-words g c =
    by_none (texts_of c.args.words.now)
    (edges g.S.Source.left g.S.Source.faults c.args.source.now c.args.source.now)
    (edges g.K.Sink.held g.K.Sink.faults c.args.sink.now c.args.sink.now)
    (c.in-Err-Refused.ensures.refused c.in-Err-Refused.field-0-is) refl refl

-- ---- no memory to read the words

pub returns-clause-ends : goal.returns-clause-ends
returns-clause-ends g c =
    let d = g.D.Disk in
    let l = g.L.Disk in
    λ task means. unbegun_ends (edge (g.S.Source.left c.args.source.now) (g.S.Source.faults c.args.source.now))
    (edge (g.K.Sink.held c.args.sink.now) (g.K.Sink.faults c.args.sink.now))
    (c.args.source.now ≡ c.args.source.now) (c.args.sink.now ≡ c.args.sink.now) refl refl
    (telling d.bytes d.images d.moment d.left_since d.faults) c.args.disk (g.met.D.Disk.only_now c.args.disk)
    (telling l.bytes l.images l.moment l.left_since l.faults) c.args.ledger (g.met.L.Disk.only_now c.args.ledger)
    (record {
      audits = c.laws_hold.ensures.audits;
      guards = c.laws_hold.ensures.guards;
      migrations = c.laws_hold.ensures.migrations;
      compaction = c.laws_hold.ensures.compaction;
      bindings = c.laws_hold.ensures.bindings;
      operated = c.laws_hold.ensures.operated;
      operations = c.laws_hold.ensures.operations;
      questions = c.laws_hold.ensures.questions;
    }) task (file_of g.F.Source.left g.F.Source.faults c.args.file.now c.args.file.now)
    (file_rested g.F.Source.left g.F.Source.faults c.args.file.now)

pub returns-clause-words : goal.returns-clause-words
returns-clause-words g c =
    by_no_memory (texts_of c.args.words.now)
    (edges g.S.Source.left g.S.Source.faults c.args.source.now c.args.source.now)
    (edges g.K.Sink.held g.K.Sink.faults c.args.sink.now c.args.sink.now) refl refl
