-- So many modules are there, each as at first.
use Rattle.pol_actors.specs.Kept.{AreFirstUnits}
use Rattle.pol_live.proofs.cast.first_units.Given as goal

abbrev pub invariant-loop : goal.invariant-loop
invariant-loop l = AreFirstUnits l.counter l.units.items
