use Rattle.std.proofs.Common.{refl}
use Rattle.std.proofs.lemmas.Result.{on_ok_weaker}
use Rattle.kept_jobs.specs.Keeping.{job_state}
use Rattle.kept_jobs.specs.Telling.{telling}
use Rattle.kept_jobs.proofs.Running.{did_either, keeps_all, keeps_answered, leaves_more}
use Rattle.pol_ledger.specs.Ledgers.{ledger_state}
use Rattle.pol_ledger.specs.Work.{ledger_work}
use Rattle.pol_operate.specs.Kept.{answers_behind, first_known, items_behind}
use Rattle.pol_operate.specs.Operated.{known_items}
use Rattle.pol_operate.specs.Work.{operate_work}
use Rattle.pol_operate.proofs.Ended.{when_disk, when_done}
use Rattle.pol_operate.proofs.Unsaid.{unwritten}
use Rattle.pol_operate.proofs.job.operate_on.Goals as goal

pub returns-clause-disk_cause : goal.returns-clause-disk_cause
returns-clause-disk_cause g c =
    let did = did_either operate_work (first_known (ledger_state c.args.store.chronicle)) _ _ _ _ c.work-done.result
    c.work-done.ensures.did_all c.work-done.ensures.did_some in
    rw c.into_disk.ensures (when_disk _ _ (did.did.cause c.requires.opened) c.ended.result c.work-done.result
    c.ended.ensures.job c.work-done.ensures.failed)

pub returns-clause-unwritten : goal.returns-clause-unwritten
returns-clause-unwritten g c =
    unwritten (ledger_state c.args.store.chronicle) _ _ c.ended.result c.work-done.result c.ended.ensures.job
    c.work-done.ensures.refused

pub returns-clause-on : goal.returns-clause-on
returns-clause-on g c =
    let did = did_either operate_work (first_known (ledger_state c.args.store.chronicle)) _ _ _ _ c.work-done.result
    c.work-done.ensures.did_all c.work-done.ensures.did_some in
    rw c.into_disk.ensures did.did.on

pub returns-clause-moments : goal.returns-clause-moments
returns-clause-moments g c = λ kept.
    let d = g.D.Disk in
    let ledger = ledger_state c.args.store.chronicle in
    rw c.into_disk.ensures (leaves_more ledger_work operate_work known_items
    (telling d.bytes d.images d.moment d.left_since d.faults) (job_state (first_known ledger) c.args.store) _
    (items_behind ledger) (λ parts. refl) _ kept (answers_behind ledger) (λ parts. refl) _ _
    (did_either operate_work (first_known ledger) _ _ _ _ c.work-done.result c.work-done.ensures.did_all
    c.work-done.ensures.did_some))

pub returns-clause-kept : goal.returns-clause-kept
returns-clause-kept g c = λ kept.
    let d = g.D.Disk in
    let ledger = ledger_state c.args.store.chronicle in
    rw c.into_disk.ensures (keeps_answered ledger_work operate_work known_items
    (telling d.bytes d.images d.moment d.left_since d.faults) (job_state (first_known ledger) c.args.store) _
    (items_behind ledger) (λ parts. refl) _ kept (answers_behind ledger) (λ parts. refl) _ _
    (did_either operate_work (first_known ledger) _ _ _ _ c.work-done.result c.work-done.ensures.did_all
    c.work-done.ensures.did_some))

pub returns-clause-kept_all : goal.returns-clause-kept_all
returns-clause-kept_all g c =
    let d = g.D.Disk in
    let ledger = ledger_state c.args.store.chronicle in
    rw c.into_disk.ensures (when_done _ c.ended.result c.work-done.result c.ended.ensures.job
    (on_ok_weaker c.work-done.result (λ all kept. keeps_all ledger_work operate_work known_items
    (telling d.bytes d.images d.moment d.left_since d.faults) (job_state (first_known ledger) c.args.store) _
    (items_behind ledger) (λ parts. refl) _ kept all) c.work-done.ensures.did_all))
