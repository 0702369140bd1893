use Rattle.mtp_sim.proofs.Edges.{first_along}
use Rattle.mtp_sim.proofs.laws.first_modules_follow_edges.Goals as goal

pub returns : goal.returns
returns c = first_along
