-- The seats stay their actors'.
use Rattle.std.specs.Prelude.{◌≡◌, vec_len}
use Rattle.pol_live.specs.Seats.{actors_of}
use Rattle.pol_live.proofs.acting.pass.Given as goal

abbrev pub invariant-loop-i : goal.invariant-loop-i
invariant-loop-i g l = (vec_len l.seats ≡ l.i-end) × (actors_of l.seats.items ≡ actors_of l.initial.seats.items)
