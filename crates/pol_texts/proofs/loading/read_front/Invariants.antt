use Rattle.std.proofs.Common.{◌-◌, length}
use Rattle.pol_texts.specs.Loads.{Loads}
use Rattle.pol_texts.proofs.loading.read_front.Given as goal

abbrev pub invariant-loop-filled : goal.invariant-loop-filled
invariant-loop-filled g l =
    let d = g.D.Disk in
    Loads d.bytes d.images d.moment d.left_since d.faults l.fn.disk l.disk l.filled (length l.fn.bytes) l.bytes

abbrev pub decreases-loop-filled : goal.decreases-loop-filled
decreases-loop-filled g l = length l.bytes - l.filled
