use Rattle.std.proofs.Common.{ap, arith}
use Rattle.std.proofs.lemmas.Result.{on_ok_weaker}
use Rattle.kept_jobs.specs.Telling.{telling}
use Rattle.kept_jobs.proofs.Ended.{opened_kept, reads_one, run_keeps, run_keeps_all, unopened_keeps}
use Rattle.pol_core.specs.Plants.{plant_history}
use Rattle.pol_disk.proofs.Telling.{through_known, was_told}
use Rattle.pol_history.specs.Runs.{events_of}
use Rattle.pol_store.specs.Lawful.{length-events, plants_are_lawful}
use Rattle.pol_store.specs.Stands.{StandsFor}
use Rattle.pol_store.specs.Work.{plant_work}
use Rattle.pol_store.proofs.Histories.{legal_few}
use Rattle.pol_keep.specs.Keeping.{kept_plant, plant_job, plant_state}
use Rattle.pol_keep.specs.Kept.{answers_with, events_with, kept_output}
use Rattle.pol_keep.proofs.Ended.{keep_ends, keeps, left_begun, unopened_is}
use Rattle.pol_keep.proofs.job.keep.Goals as goal

pub returns-in-Ok-clause-ends : goal.returns-in-Ok-clause-ends
returns-in-Ok-clause-ends g c =
    let d = g.D.Disk in
    let history = plant_history c.in-Ok.store.plant in
    keep_ends kept_output _ _ _ _ _ c.keep_on.result.0 c.keep_on.ensures.is_store
    (keeps kept_output _ _ _ _ _ _ history c.in-Ok.ensures.legal c.in-Ok.ensures.orderly
    (through_known (d.bytes c.args.disk) (d.bytes c.in-Ok.store.disk) (d.bytes c.keep_on.result.1)
    (StandsFor (events_of history)) c.keep_on.ensures.on c.in-Ok.ensures.stood)
    c.keep_on.ensures.ends)

pub returns-in-Ok-clause-keeps : goal.returns-in-Ok-clause-keeps
returns-in-Ok-clause-keeps g c =
    let d = g.D.Disk in
    let disk = telling d.bytes d.images d.moment d.left_since d.faults in
    let did = c.in-Ok.ensures in
    let store = c.in-Ok.store in
    let events = events_of (plant_history store.plant) in
    run_keeps plant_work disk plant_job events_of c.args.disk _ (plant_state store) _ (events_with events)
    (answers_with events) c.keep_on.ensures.on
    (λ old reads tells.
    let same = reads_one plant_work disk plants_are_lawful c.args.disk old events reads
    (did.stood reads.bytes tells.0 reads.told tells.1) in
    record {
      kept = opened_kept plant_work disk events_of (plant_history store.plant) (kept_plant store) did.opened tells
          (did.stand tells.0 tells.1);
      items_are = ap events_with same;
      answers_are = ap answers_with same;
    }) _ _
    (λ old reads tells. left_begun disk c.args.disk old reads store.disk
    (did.left reads.bytes tells.0 reads.told tells.1))
    c.keep_on.ensures.moments c.keep_on.ensures.kept

pub returns-in-Ok-clause-keeps_all : goal.returns-in-Ok-clause-keeps_all
returns-in-Ok-clause-keeps_all g c =
    let d = g.D.Disk in
    let disk = telling d.bytes d.images d.moment d.left_since d.faults in
    let did = c.in-Ok.ensures in
    let store = c.in-Ok.store in
    let events = events_of (plant_history store.plant) in
    on_ok_weaker c.keep_on.result.0
    (run_keeps_all plant_work disk plant_job events_of c.args.disk _ (plant_state store) _ (events_with events)
    (answers_with events) c.keep_on.ensures.on
    (λ old reads tells.
    let same = reads_one plant_work disk plants_are_lawful c.args.disk old events reads
    (did.stood reads.bytes tells.0 reads.told tells.1) in
    record {
      kept = opened_kept plant_work disk events_of (plant_history store.plant) (kept_plant store) did.opened tells
          (did.stand tells.0 tells.1);
      items_are = ap events_with same;
      answers_are = ap answers_with same;
    }))
    c.keep_on.ensures.kept_all

pub returns-in-Ok-clause-unopened : goal.returns-in-Ok-clause-unopened
returns-in-Ok-clause-unopened g c = λ all now told later none quiet.
    let d = g.D.Disk in
    let history = plant_history c.in-Ok.store.plant in
    let mid = was_told (d.bytes c.in-Ok.store.disk) (d.bytes c.keep_on.result.1) c.keep_on.ensures.on now later in
    absurd (none (events_of history)
    (omega (arith, length-events history, legal_few history c.in-Ok.ensures.legal))
    (c.in-Ok.ensures.stood all mid.0 told mid.1))

pub returns-in-Err-clause-keeps : goal.returns-in-Err-clause-keeps
returns-in-Err-clause-keeps g c =
    let d = g.D.Disk in
    let disk = telling d.bytes d.images d.moment d.left_since d.faults in
    unopened_keeps plant_work disk plant_job c.args.disk c.in-Err.disk
    (λ old reads tells. left_begun disk c.args.disk old reads c.in-Err.disk
    (c.in-Err.ensures.left_err reads.bytes tells.0 reads.told tells.1)) _ _ g.met.D.Disk.counts_now

pub returns-in-Err-clause-unopened : goal.returns-in-Err-clause-unopened
returns-in-Err-clause-unopened g c = λ all now told later none well.
    unopened_is c.in-Err.fault c.unopened.result c.unopened.ensures (λ is. well (c.in-Err.ensures.disk_cause is))
