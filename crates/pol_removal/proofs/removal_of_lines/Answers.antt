use Rattle.pol_removal.proofs.Outputs.{lines_removed}
use Rattle.pol_removal.proofs.removal_of_lines.Goals as goal

pub returns : goal.returns
returns c = lines_removed
