-- The shares so far and those of the seats that are left are all.
use Rattle.std.specs.Prelude.{◌≡◌, ◌+◌, length}
use Rattle.std.specs.Vec.Iter.{into_iter_items}
use Rattle.pol_live.specs.Parts.{made_in_all}
use Rattle.pol_live.proofs.closing.gather.Given as goal

abbrev pub invariant-loop-seat : goal.invariant-loop-seat
invariant-loop-seat g l =
    ((goal.iterator-loop-seat g).can_next l.seat-iterator) × ((goal.iterator-loop-seat g).is_finite l.seat-iterator)
    × (l.whole.parts + length (into_iter_items l.seat-iterator)
    ≡ l.initial.whole.parts + length (into_iter_items l.initial.seat-iterator))
    × (l.whole.amount + made_in_all (into_iter_items l.seat-iterator)
    ≡ l.initial.whole.amount + made_in_all (into_iter_items l.initial.seat-iterator))
