use Rattle.mtp_sim.proofs.Indexed.{kept_first}
use Rattle.mtp_sim.proofs.sim.Sim.new.Goals as goal

pub invariant_of-result : goal.invariant_of-result
invariant_of-result c = rw c.in_ok-services.ensures (kept_first _ _ c.in_ok-names.ensures)
