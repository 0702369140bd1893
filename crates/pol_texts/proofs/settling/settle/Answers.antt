use Rattle.pol_texts.proofs.Quiet.{any_ok, quiet, quiet_then, image_was, synced_then}
use Rattle.pol_texts.proofs.settling.settle.Goals as goal

pub returns-in_err-sync-clause-moments : goal.returns-in_err-sync-clause-moments
returns-in_err-sync-clause-moments g c =
    let d = g.D.Disk in
    quiet d.bytes d.images d.moment d.left_since g.met.D.Disk.only_now c.args.disk.now c.sync.new.self
    c.sync.ensures.images c.sync.ensures.time

pub returns-clause-image : goal.returns-clause-image
returns-clause-image g c =
    let d = g.D.Disk in
    any_ok c.len.result
    (image_was (d.bytes c.args.disk.now) (d.bytes c.sync.new.self) (d.images c.args.disk.now)
    (d.images c.sync.new.self) c.in_ok-sync.ensures.bytes c.sync.ensures.image c.sync.ensures.images)

pub returns-clause-moments : goal.returns-clause-moments
returns-clause-moments g c =
    let d = g.D.Disk in
    quiet_then d.bytes d.images d.moment d.left_since g.met.D.Disk.only_now c.args.disk.now c.sync.new.self
    c.len.new.self c.sync.ensures.images c.sync.ensures.time c.len.ensures.images c.len.ensures.time

pub returns-clause-synced : goal.returns-clause-synced
returns-clause-synced g c =
    let d = g.D.Disk in
    any_ok c.len.result
    (synced_then (d.bytes c.args.disk.now) (d.bytes c.sync.new.self) (d.bytes c.len.new.self) (d.images c.sync.new.self)
    (d.images c.len.new.self) c.in_ok-sync.ensures.bytes c.len.ensures.bytes c.in_ok-sync.ensures.durable
    c.len.ensures.images)
