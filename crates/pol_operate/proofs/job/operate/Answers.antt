use Rattle.std.proofs.Common.{ap}
use Rattle.std.proofs.lemmas.Result.{on_ok_weaker}
use Rattle.kept_jobs.specs.Keeping.{job_state}
use Rattle.kept_jobs.specs.Telling.{telling}
use Rattle.kept_jobs.proofs.Ended.{opened_kept, run_keeps, run_keeps_all, unopened_keeps}
use Rattle.pol_disk.proofs.Telling.{was_told}
use Rattle.pol_ledger.specs.Ledgers.{ledger_state}
use Rattle.pol_ledger.specs.Work.{items_of, ledger_work}
use Rattle.pol_operate.specs.Kept.{answers_behind, first_known, items_behind, operate_job}
use Rattle.pol_operate.specs.Operated.{known_items}
use Rattle.pol_operate.proofs.Ended.{operate_ends, operates, unopened_is}
use Rattle.pol_operate.proofs.Found.{left_begun, opened_of, was_found}
use Rattle.pol_operate.proofs.Unsaid.{not_refused}
use Rattle.pol_operate.proofs.job.operate.Goals as goal

pub returns-in-Ok-clause-ends : goal.returns-in-Ok-clause-ends
returns-in-Ok-clause-ends g c =
    let d = g.D.Disk in
    let ledger = ledger_state c.in-Ok.store.chronicle in
    operate_ends _ _ _ _ _ c.operate_on.result.0 c.operate_on.ensures.is_ledger
    (operates _ _ _ _ _ _ ledger
    (was_found (d.bytes c.args.disk) (d.bytes c.in-Ok.store.disk) (d.bytes c.operate_on.result.1) ledger _
    c.operate_on.ensures.on c.in-Ok.ensures.stood c.in-Ok.ensures.image_read)
    c.operate_on.ensures.ends)

pub returns-in-Ok-clause-keeps : goal.returns-in-Ok-clause-keeps
returns-in-Ok-clause-keeps g c =
    let d = g.D.Disk in
    let disk = telling d.bytes d.images d.moment d.left_since d.faults in
    let did = c.in-Ok.ensures in
    let store = c.in-Ok.store in
    let ledger = ledger_state store.chronicle in
    run_keeps ledger_work disk operate_job known_items c.args.disk _ (job_state (first_known ledger) store) _
    (items_behind ledger) (answers_behind ledger) c.operate_on.ensures.on
    (λ old reads tells.
    let same = opened_of disk c.args.disk old reads ledger (did.stood reads.bytes tells.0 reads.told tells.1) in
    record {
      kept = opened_kept ledger_work disk known_items (first_known ledger) store did.opened tells
          (did.stand tells.0 tells.1);
      items_are = ap items_behind same;
      answers_are = ap answers_behind same;
    }) _ _
    (λ old reads tells. left_begun disk c.args.disk old reads store.disk
    (did.left reads.bytes tells.0 reads.told tells.1))
    c.operate_on.ensures.moments c.operate_on.ensures.kept

pub returns-in-Ok-clause-keeps_all : goal.returns-in-Ok-clause-keeps_all
returns-in-Ok-clause-keeps_all g c =
    let d = g.D.Disk in
    let disk = telling d.bytes d.images d.moment d.left_since d.faults in
    let did = c.in-Ok.ensures in
    let store = c.in-Ok.store in
    let ledger = ledger_state store.chronicle in
    on_ok_weaker c.operate_on.result.0
    (run_keeps_all ledger_work disk operate_job known_items c.args.disk _ (job_state (first_known ledger) store) _
    (items_behind ledger) (answers_behind ledger) c.operate_on.ensures.on
    (λ old reads tells.
    let same = opened_of disk c.args.disk old reads ledger (did.stood reads.bytes tells.0 reads.told tells.1) in
    record {
      kept = opened_kept ledger_work disk known_items (first_known ledger) store did.opened tells
          (did.stand tells.0 tells.1);
      items_are = ap items_behind same;
      answers_are = ap answers_behind same;
    }))
    c.operate_on.ensures.kept_all

pub returns-in-Ok-clause-unopened : goal.returns-in-Ok-clause-unopened
returns-in-Ok-clause-unopened g c = λ all now told later none quiet.
    let d = g.D.Disk in
    let mid = was_told (d.bytes c.in-Ok.store.disk) (d.bytes c.operate_on.result.1) c.operate_on.ensures.on now later in
    let one = c.in-Ok.ensures.stood all mid.0 told mid.1 in
    absurd (none (items_of one.found) one.stood)

pub returns-in-Err-clause-keeps : goal.returns-in-Err-clause-keeps
returns-in-Err-clause-keeps g c =
    let d = g.D.Disk in
    let disk = telling d.bytes d.images d.moment d.left_since d.faults in
    unopened_keeps ledger_work disk operate_job c.args.disk c.in-Err.disk
    (λ old reads tells. left_begun disk c.args.disk old reads c.in-Err.disk
    (c.in-Err.ensures.left_err reads.bytes tells.0 reads.told tells.1)) _ _ g.met.D.Disk.counts_now

pub returns-in-Err-clause-unopened : goal.returns-in-Err-clause-unopened
returns-in-Err-clause-unopened g c = λ all now told later none well.
    unopened_is c.in-Err.fault c.unopened.result c.unopened.ensures (λ is. well (c.in-Err.ensures.disk_cause is))

pub returns-in-Err-clause-unwritten : goal.returns-in-Err-clause-unwritten
returns-in-Err-clause-unwritten g c = λ reason is.
    not_refused c.in-Err.fault c.unopened.result _ c.unopened.ensures reason is
