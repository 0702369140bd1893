use Rattle.std.proofs.Common.{subst}
use Rattle.mtp_sim.specs.Told.{AreNext}
use Rattle.mtp_sim.proofs.Edges.{ticks_along}
use Rattle.mtp_sim.proofs.sim.Sim.tick.Goals as goal

pub returns-clause-edges : goal.returns-clause-edges
returns-clause-edges c =
    rw c.tick_once.ensures.report
    (ticks_along c.args.self.now (subst (λ sim. AreNext sim.services) c.self.view_is c.self.invariant.next)).edges

pub returns-clause-stays : goal.returns-clause-stays
returns-clause-stays c =
    rw c.tick_once.ensures.after
    (ticks_along c.args.self.now (subst (λ sim. AreNext sim.services) c.self.view_is c.self.invariant.next)).stays
