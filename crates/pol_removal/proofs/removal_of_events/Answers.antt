use Rattle.pol_removal.proofs.Induction.{events_removed}
use Rattle.pol_removal.proofs.removal_of_events.Goals as goal

pub returns : goal.returns
returns c = events_removed
