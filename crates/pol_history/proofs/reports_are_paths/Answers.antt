use Rattle.pol_history.proofs.Paths.{reports_follow_paths}
use Rattle.pol_history.proofs.reports_are_paths.Goals as goal

pub returns : goal.returns
returns c = reports_follow_paths
