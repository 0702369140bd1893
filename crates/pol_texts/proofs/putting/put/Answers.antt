use Rattle.std.proofs.Common.{length}
use Rattle.pol_disk.specs.Disks.{Torn}
use Rattle.pol_disk.proofs.Telling.{on_both, on_still, on_then}
use Rattle.pol_texts.proofs.Runs.{both_ok, synced_after, synced_now, written}
use Rattle.pol_texts.proofs.putting.put.Goals as goal

pub returns-in_err-write_at-clause-moments : goal.returns-in_err-write_at-clause-moments
returns-in_err-write_at-clause-moments g c = λ all synced.
    let d = g.D.Disk in
    written d.bytes d.images d.moment d.left_since g.met.D.Disk.only_now c.args.disk.now c.write_at.new.self c.args.at
    (length c.args.piece.now) all synced c.write_at.ensures.images c.write_at.ensures.time

pub returns-clause-moments : goal.returns-clause-moments
returns-clause-moments g c = λ all synced.
    let d = g.D.Disk in
    synced_after d.bytes d.images d.moment d.left_since g.met.D.Disk.only_now c.args.disk.now c.write_at.new.self
    c.sync.new.self c.args.at (length c.args.piece.now) all synced
    c.write_at.ensures.images c.write_at.ensures.time c.sync.ensures.images c.sync.ensures.time

pub returns-clause-kept : goal.returns-clause-kept
returns-clause-kept g c =
    let d = g.D.Disk in
    both_ok c.sync.result
    (λ durable same. λ all told. synced_now c.args.at c.args.piece.now all (d.bytes c.args.disk.now)
    (d.bytes c.write_at.new.self) (d.bytes c.sync.new.self) (d.images c.sync.new.self)
    c.in_ok-write_at.ensures.written same durable told)
    c.sync.ensures.durable c.sync.ensures.bytes

pub returns-in_err-write_at-clause-on : goal.returns-in_err-write_at-clause-on
returns-in_err-write_at-clause-on g c =
    let d = g.D.Disk in
    on_both (Torn c.args.at (length c.args.piece.now)) (d.bytes c.args.disk.now) (d.bytes c.write_at.new.self)
    c.write_at.ensures.part

pub returns-clause-on : goal.returns-clause-on
returns-clause-on g c =
    let d = g.D.Disk in
    on_then (d.bytes c.args.disk.now) (d.bytes c.write_at.new.self) (d.bytes c.sync.new.self)
    (on_both (Torn c.args.at (length c.args.piece.now)) (d.bytes c.args.disk.now) (d.bytes c.write_at.new.self)
    c.write_at.ensures.part)
    (on_still (d.bytes c.write_at.new.self) (d.bytes c.sync.new.self) c.sync.ensures.still)
