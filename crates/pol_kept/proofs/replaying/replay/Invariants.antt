use Rattle.std.proofs.Common.{◌≤◌, ◌-◌, length}
use Rattle.pol_kept.specs.Stands.{BeginsWithItems}
use Rattle.pol_kept.proofs.replaying.replay.Given as goal

abbrev pub invariant-record : goal.invariant-record
invariant-record g l =
    let ch = g.C.Chronicle in
    BeginsWithItems ch.work l.at l.bytes (ch.work.items (ch.state l.chronicle))
    × (length (ch.work.items (ch.state l.chronicle)) ≤ ch.work.most)

abbrev pub decreases-record : goal.decreases-record
decreases-record g l = length l.bytes - l.at
