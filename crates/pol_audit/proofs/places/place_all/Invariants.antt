use Rattle.std.proofs.Common.{take}
use Rattle.pol_events.specs.Events.{plain_history}
use Rattle.pol_audit.specs.Placed.{IsPlaced}
use Rattle.pol_audit.proofs.places.place_all.Given as goal

abbrev pub invariant-loop-entry : goal.invariant-loop-entry
invariant-loop-entry l = IsPlaced l.places (plain_history (take l.entry-index l.history))
