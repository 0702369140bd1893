-- The seat stays its actor's.
use Rattle.std.specs.Prelude.{◌≡◌}
use Rattle.pol_live.proofs.acting.act.Given as goal

abbrev pub invariant-loop : goal.invariant-loop
invariant-loop g l = l.seat.actor ≡ l.actor
