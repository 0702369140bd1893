use Rattle.std.proofs.Common.{◌+◌, ◌∷◌, []}
use Rattle.std.proofs.lemmas.Result.{on_ok_weaker}
use Rattle.pol_disk.specs.Disks.{Holds, spliced}
use Rattle.pol_disk.proofs.Telling.{on_then}
use Rattle.pol_texts.proofs.Runs.{alike, alike_then, behind_left, gate_left, settled_after, near_after, near_one_less, near_one_more}
use Rattle.pol_texts.proofs.adding.add.Goals as goal

pub put-requires : goal.put-requires
put-requires g c = near_one_more c.args.end (g.D.Disk.bytes c.args.disk.now) c.requires.1

pub put-requires-2 : goal.put-requires-2
put-requires-2 g c =
    let d = g.D.Disk in
    near_one_less c.args.end (d.bytes c.put.new.disk)
    (near_after (c.args.end + 1) c.args.behind.now (d.bytes c.args.disk.now) (d.bytes c.put.new.disk)
    (near_one_more c.args.end (d.bytes c.args.disk.now) c.requires.1) c.in_ok-put.ensures.told)

pub returns-in_err-put-clause-moments : goal.returns-in_err-put-clause-moments
returns-in_err-put-clause-moments g c = λ texts group is_group settled.
    let d = g.D.Disk in
    behind_left d.bytes d.images d.moment d.left_since texts group c.args.behind.now is_group c.args.end
    c.args.disk.now c.put.new.disk settled (c.put.ensures.moments settled.bytes settled.synced)

pub returns-clause-moments : goal.returns-clause-moments
returns-clause-moments g c = λ texts group is_group settled.
    let d = g.D.Disk in
    gate_left d.bytes d.images d.moment d.left_since texts group c.args.behind.now is_group c.args.end c.args.disk.now
    c.put.new.disk c.put-2.new.disk settled
    (c.put.ensures.moments settled.bytes settled.synced)
    (c.put-2.ensures.moments (spliced (c.args.end + 1) c.args.behind.now settled.bytes)
    (c.in_ok-put.ensures.kept settled.bytes settled.synced.told))

pub returns-clause-kept : goal.returns-clause-kept
returns-clause-kept g c =
    let d = g.D.Disk in
    on_ok_weaker c.put-2.result
    (λ kept. λ texts group is_group settled.
    let first = c.in_ok-put.ensures.kept settled.bytes settled.synced.told in
    settled_after d.bytes d.images d.moment d.left_since texts group c.args.behind.now is_group c.args.end
    c.args.disk.now c.put-2.new.disk settled
    (kept (spliced (c.args.end + 1) c.args.behind.now settled.bytes) first.told))
    c.put-2.ensures.kept

pub returns-clause-told : goal.returns-clause-told
returns-clause-told g c =
    let d = g.D.Disk in
    on_ok_weaker c.put-2.result
    (λ told. alike_then (d.bytes c.args.disk.now) (d.bytes c.put.new.disk) (d.bytes c.put-2.new.disk)
    (alike (Holds (c.args.end + 1) c.args.behind.now) (d.bytes c.args.disk.now)
    (d.bytes c.put.new.disk) c.in_ok-put.ensures.told)
    (alike (Holds c.args.end (1 ∷ [])) (d.bytes c.put.new.disk) (d.bytes c.put-2.new.disk) told))
    c.put-2.ensures.told

pub returns-clause-on : goal.returns-clause-on
returns-clause-on g c =
    let d = g.D.Disk in
    on_then (d.bytes c.args.disk.now) (d.bytes c.put.new.disk) (d.bytes c.put-2.new.disk) c.put.ensures.on
    c.put-2.ensures.on
