-- The seat stays its actor's.
use Rattle.std.specs.Prelude.{◌≡◌}
use Rattle.live_examples.proofs.threads.take_turns.Given as goal

abbrev pub invariant-loop-turn : goal.invariant-loop-turn
invariant-loop-turn g l = l.seat.actor ≡ l.initial.seat.actor
