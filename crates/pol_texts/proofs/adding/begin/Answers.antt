use Rattle.std.proofs.Common.{◌∷◌, []}
use Rattle.std.proofs.lemmas.Result.{on_ok_weaker}
use Rattle.pol_disk.specs.Disks.{Holds, Torn}
use Rattle.pol_disk.proofs.Moments.{wider}
use Rattle.pol_texts.specs.Stands.{Stands}
use Rattle.pol_texts.proofs.Crash.{torn_short}
use Rattle.pol_texts.proofs.Runs.{alike, settled_empty}
use Rattle.pol_texts.proofs.adding.begin.Goals as goal

pub returns-clause-moments : goal.returns-clause-moments
returns-clause-moments g c = λ all short synced.
    let d = g.D.Disk in
    wider d.moment d.left_since c.args.disk.now c.put.new.disk (Torn 0 1 all) (λ image. Stands image [])
    (c.put.ensures.moments all synced) (λ image torn. torn_short all image short torn)

pub returns-clause-kept : goal.returns-clause-kept
returns-clause-kept g c =
    let d = g.D.Disk in
    on_ok_weaker c.put.result
    (λ kept. λ all short synced. settled_empty (d.bytes c.put.new.disk) (d.images c.put.new.disk) all short
    (kept all synced.told))
    c.put.ensures.kept

pub returns-clause-told : goal.returns-clause-told
returns-clause-told g c =
    let d = g.D.Disk in
    on_ok_weaker c.put.result
    (λ told. alike (Holds 0 (0 ∷ [])) (d.bytes c.args.disk.now) (d.bytes c.put.new.disk) told) c.put.ensures.told
