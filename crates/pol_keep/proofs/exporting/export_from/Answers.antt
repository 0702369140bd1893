use Rattle.pol_core.specs.Plants.{plant_history}
use Rattle.pol_history.specs.Runs.{events_of}
use Rattle.pol_keep.proofs.Exported.{exported_ends, put_is_store, put_no_disk}
use Rattle.pol_keep.proofs.exporting.export_from.Goals as goal

pub returns-clause-ends : goal.returns-clause-ends
returns-clause-ends g c =
    let k = g.K.Sink in
    let did = c.put_extent-done.ensures in
    rw c.put_ended.ensures (exported_ends c.args.extent (events_of (plant_history c.args.store.plant)) k.held k.faults
    c.args.sink.now c.put_extent-done.new.sink c.put_extent-done.result did.text did.part did.cause)

pub returns-clause-no_disk : goal.returns-clause-no_disk
returns-clause-no_disk g c = rw c.put_ended.ensures (put_no_disk c.put_extent-done.result)

pub returns-clause-is_store : goal.returns-clause-is_store
returns-clause-is_store g c = rw c.put_ended.ensures (put_is_store c.put_extent-done.result)
