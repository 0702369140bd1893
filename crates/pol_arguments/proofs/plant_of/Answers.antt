use Rattle.pol_arguments.proofs.Meaning.{no_plant}
use Rattle.pol_arguments.proofs.plant_of.Goals as goal

pub returns-in_err-watchers : goal.returns-in_err-watchers
returns-in_err-watchers c = rw c.from_residual.ensures (no_plant _ (rw c.in_err-watchers.was at c.count_of.ensures))
