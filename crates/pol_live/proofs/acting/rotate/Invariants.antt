-- The seats stay their actors'.
use Rattle.std.specs.Prelude.{◌≡◌}
use Rattle.pol_live.specs.Seats.{actors_of}
use Rattle.pol_live.proofs.acting.rotate.Given as goal

abbrev pub invariant-loop : goal.invariant-loop
invariant-loop g l = actors_of l.seats.items ≡ actors_of l.initial.seats.items
