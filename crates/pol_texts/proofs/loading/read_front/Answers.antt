use Rattle.std.proofs.Common.{◌≡◌, length, rules}
use Rattle.pol_texts.proofs.Reading.{loads_more}
use Rattle.pol_texts.proofs.loading.read_front.Goals as goal

pub loop-filled-preserved : goal.loop-filled-preserved
loop-filled-preserved g c =
    let d = g.D.Disk in
    let same : length c.read_behind.new.bytes ≡ length c.loop-filled.bytes = search rules in
    loads_more d.bytes d.images d.moment d.left_since d.faults c.args.disk.now c.loop-filled.disk c.read_behind.new.disk
    c.loop-filled.filled
    (length c.args.bytes.now) c.in_ok-filled.field-0 c.loop-filled.bytes c.read_behind.new.bytes
    c.loop-filled.invariant
    c.in_ok-filled.ensures.front same c.in_ok-filled.ensures.bound c.in_ok-filled.ensures.read
    c.in_ok-filled.ensures.bytes
    c.in_ok-filled.ensures.images c.in_ok-filled.ensures.time c.in_ok-filled.ensures.cause.done
