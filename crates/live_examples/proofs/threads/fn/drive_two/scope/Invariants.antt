-- The seats that are promised, those that stay here and those that are left are all seats.
use Rattle.std.specs.Prelude.{◌≡◌, ◌++◌, length}
use Rattle.std.specs.List.{range_with_len}
use Rattle.std.specs.Vec.Iter.{into_iter_items}
use Rattle.pol_site.specs.Actors.{actors}
use Rattle.pol_live.specs.Seats.{actors_of}
use Rattle.pol_live.specs.Promises.{promised}
use Rattle.live_examples.proofs.threads.fn.drive_two.scope.Given as goal

abbrev pub invariant-loop-seat : goal.invariant-loop-seat
invariant-loop-seat g l =
    ((goal.iterator-loop-seat g).can_next l.seat-iterator) × ((goal.iterator-loop-seat g).is_finite l.seat-iterator)
    × (promised l.children.items ++ (actors_of l.here.items ++ actors_of (into_iter_items l.seat-iterator))
    ≡ range_with_len 0 (length (actors g.J.Job.site)))
