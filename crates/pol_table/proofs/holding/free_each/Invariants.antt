-- The seats before the index are freed.
use Rattle.std.proofs.Common.{◌≡◌, ◌++◌, map, take, drop}
use Rattle.pol_table.specs.Places.{seat_freed_from}
use Rattle.pol_table.proofs.holding.free_each.Given as goal

abbrev pub invariant-loop-index : goal.invariant-loop-index
invariant-loop-index l =
    l.seats.entries ≡ map (λ entry. (entry.0, seat_freed_from l.batch entry.1))
    (take l.index l.initial.seats.entries) ++ drop l.index l.initial.seats.entries
