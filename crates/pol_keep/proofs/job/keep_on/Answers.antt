use Rattle.std.proofs.Common.{subst}
use Rattle.std.proofs.lemmas.Result.{on_ok_weaker}
use Rattle.kept_jobs.specs.Telling.{telling}
use Rattle.kept_jobs.proofs.Running.{did_either, keeps_all, keeps_answered, leaves_more}
use Rattle.pol_core.specs.Plants.{plant_history}
use Rattle.pol_history.specs.Runs.{events_of}
use Rattle.pol_jobs.specs.Ends.{Ends, edge}
use Rattle.pol_replay.specs.Replay.{replay_work}
use Rattle.pol_store.specs.Work.{plant_work}
use Rattle.pol_store.proofs.Histories.{runs_legal}
use Rattle.pol_keep.specs.Keeping.{plant_state}
use Rattle.pol_keep.specs.Kept.{answers_with, events_with}
use Rattle.pol_keep.proofs.Ended.{when_disk, when_done}
use Rattle.pol_keep.proofs.Running.{events_run, output_run, replies_run}
use Rattle.pol_keep.proofs.job.keep_on.Goals as goal

pub returns-clause-ends : goal.returns-clause-ends
returns-clause-ends g c =
    let history = plant_history c.args.store.plant in
    let s = g.S.Source in
    let k = g.K.Sink in
    rw c.ended.ensures.job (subst (λ output. Ends output
    (edge (s.left c.args.source.now) (s.faults c.args.source.now))
    (edge (s.left c.work-done.new.source) (s.faults c.work-done.new.source))
    (edge (k.held c.args.sink.now) (k.faults c.args.sink.now))
    (edge (k.held c.work-done.new.sink) (k.faults c.work-done.new.sink))
    c.work-done.result) (output_run history (runs_legal history c.requires.legal)) c.work-done.ensures.ends)

pub returns-clause-moments : goal.returns-clause-moments
returns-clause-moments g c = λ kept.
    let d = g.D.Disk in
    let history = plant_history c.args.store.plant in
    let runs = runs_legal history c.requires.legal in
    let old = events_of history in
    rw c.into_parts-plant.ensures.1 (leaves_more plant_work replay_work events_of
    (telling d.bytes d.images d.moment d.left_since d.faults) (plant_state c.args.store) _ (events_with old)
    (events_run history runs) _ kept (answers_with old) (replies_run history runs) _ _
    (did_either replay_work history _ _ _ _ c.work-done.result c.work-done.ensures.did_all
    c.work-done.ensures.did_some))

pub returns-clause-kept : goal.returns-clause-kept
returns-clause-kept g c = λ kept.
    let d = g.D.Disk in
    let history = plant_history c.args.store.plant in
    let runs = runs_legal history c.requires.legal in
    let old = events_of history in
    rw c.into_parts-plant.ensures.1 (keeps_answered plant_work replay_work events_of
    (telling d.bytes d.images d.moment d.left_since d.faults) (plant_state c.args.store) _ (events_with old)
    (events_run history runs) _ kept (answers_with old) (replies_run history runs) _ _
    (did_either replay_work history _ _ _ _ c.work-done.result c.work-done.ensures.did_all
    c.work-done.ensures.did_some))

pub returns-clause-kept_all : goal.returns-clause-kept_all
returns-clause-kept_all g c =
    let d = g.D.Disk in
    let history = plant_history c.args.store.plant in
    let old = events_of history in
    rw c.into_parts-plant.ensures.1 (when_done _ c.ended.result c.work-done.result c.ended.ensures.job
    (on_ok_weaker c.work-done.result (λ all kept. keeps_all plant_work replay_work events_of
    (telling d.bytes d.images d.moment d.left_since d.faults) (plant_state c.args.store) _ (events_with old)
    (events_run history (runs_legal history c.requires.legal)) _ kept all) c.work-done.ensures.did_all))

pub returns-clause-on : goal.returns-clause-on
returns-clause-on g c =
    let did = did_either replay_work (plant_history c.args.store.plant) _ _ _ _ c.work-done.result
    c.work-done.ensures.did_all c.work-done.ensures.did_some in
    rw c.into_parts-plant.ensures.1 did.did.on

pub returns-clause-disk_cause : goal.returns-clause-disk_cause
returns-clause-disk_cause g c =
    let did = did_either replay_work (plant_history c.args.store.plant) _ _ _ _ c.work-done.result
    c.work-done.ensures.did_all c.work-done.ensures.did_some in
    rw c.into_parts-plant.ensures.1 (when_disk _ _ (did.did.cause c.requires.opened) c.ended.result c.work-done.result
    c.ended.ensures.job c.work-done.ensures.failed)
