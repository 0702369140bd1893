use Rattle.pol_removal.proofs.Induction.{batches_removed}
use Rattle.pol_removal.proofs.removal_of_batches.Goals as goal

pub returns : goal.returns
returns c = batches_removed
