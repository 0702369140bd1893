-- So many batches are there, each as at first.
use Rattle.pol_actors.specs.Kept.{AreFirstStages}
use Rattle.pol_live.proofs.cast.first_stages.Given as goal

abbrev pub invariant-loop : goal.invariant-loop
invariant-loop l = AreFirstStages l.counter l.stages.items
