use Rattle.std.proofs.Common.{◌≡◌, List, Some, arith, subst}
use Rattle.kept_jobs.specs.Telling.{telling}
use Rattle.kept_jobs.proofs.Ended.{left_plain, reads_one}
use Rattle.pol_core.specs.Plants.{plant_history}
use Rattle.pol_disk.proofs.Telling.{on_same, through_known}
use Rattle.pol_events.specs.Events.{PlainEvent}
use Rattle.pol_history.specs.Runs.{events_of}
use Rattle.pol_store.specs.Lawful.{length-events, plants_are_lawful}
use Rattle.pol_store.specs.Stands.{StandsFor}
use Rattle.pol_store.specs.Work.{plant_work}
use Rattle.pol_store.proofs.Histories.{legal_few}
use Rattle.pol_keep.specs.Exported.{exported_output}
use Rattle.pol_keep.proofs.Ended.{keep_ends, keeps, on_ok_holds, unopened_is}
use Rattle.pol_keep.proofs.exporting.export.Goals as goal

pub returns-in-Ok-clause-ends : goal.returns-in-Ok-clause-ends
returns-in-Ok-clause-ends g c =
    let d = g.D.Disk in
    let history = plant_history c.in-Ok.store.plant in
    rw c.export_from.ensures.disk (keep_ends (exported_output c.args.extent) _ _ _ _ _ c.export_from.result.0
    c.export_from.ensures.is_store
    (keeps (exported_output c.args.extent) _ _ _ _ _ _ history c.in-Ok.ensures.legal c.in-Ok.ensures.orderly
    (through_known (d.bytes c.args.disk) (d.bytes c.in-Ok.store.disk) (d.bytes c.in-Ok.store.disk)
    (StandsFor (events_of history)) (on_same (d.bytes c.in-Ok.store.disk)) c.in-Ok.ensures.stood)
    c.export_from.ensures.ends))

pub returns-in-Ok-clause-holds : goal.returns-in-Ok-clause-holds
returns-in-Ok-clause-holds g c =
    let d = g.D.Disk in
    rw c.export_from.ensures.disk (λ old reads tells. left_plain plant_work
    (telling d.bytes d.images d.moment d.left_since d.faults) plants_are_lawful c.args.disk c.in-Ok.store.disk old
    reads _ (λ image one. one) (c.in-Ok.ensures.left reads.bytes tells.0 reads.told tells.1))

pub returns-in-Ok-clause-holds_all : goal.returns-in-Ok-clause-holds_all
returns-in-Ok-clause-holds_all g c =
    let d = g.D.Disk in
    let did = c.in-Ok.ensures in
    on_ok_holds c.export_from.result.0
    (rw c.export_from.ensures.disk (λ old reads tells.
    let same = reads_one plant_work (telling d.bytes d.images d.moment d.left_since d.faults) plants_are_lawful
    c.args.disk old (events_of (plant_history c.in-Ok.store.plant)) reads
    (did.stood reads.bytes tells.0 reads.told tells.1) in
    (λ image now. subst (λ (events : List PlainEvent). StandsFor events image) same
    (did.stand tells.0 tells.1 image now))))

pub returns-in-Ok-clause-unopened : goal.returns-in-Ok-clause-unopened
returns-in-Ok-clause-unopened g c = λ all now told later none quiet.
    let d = g.D.Disk in
    let history = plant_history c.in-Ok.store.plant in
    let mid : d.bytes c.in-Ok.store.disk ≡ Some now = subst (λ disk. d.bytes disk ≡ Some now)
    c.export_from.ensures.disk later in
    absurd (none (events_of history)
    (omega (arith, length-events history, legal_few history c.in-Ok.ensures.legal))
    (c.in-Ok.ensures.stood all now told mid))

pub returns-in-Err-clause-holds : goal.returns-in-Err-clause-holds
returns-in-Err-clause-holds g c =
    let d = g.D.Disk in
    λ old reads tells. left_plain plant_work (telling d.bytes d.images d.moment d.left_since d.faults)
    plants_are_lawful c.args.disk c.in-Err.disk old reads _ (λ image one. one)
    (c.in-Err.ensures.left_err reads.bytes tells.0 reads.told tells.1)

pub returns-in-Err-clause-unopened : goal.returns-in-Err-clause-unopened
returns-in-Err-clause-unopened g c = λ all now told later none well.
    unopened_is c.in-Err.fault c.unopened.result c.unopened.ensures (λ is. well (c.in-Err.ensures.disk_cause is))
