use Rattle.std.proofs.Common.{sym}
use Rattle.mtp_desc.specs.PlainDescription.{plain_description}
use Rattle.mtp_sim.proofs.Indexed.{kept_ticked}
use Rattle.mtp_sim.proofs.sim.Sim.tick_service.Goals as goal

pub invariant_of-self : goal.invariant_of-self
invariant_of-self c =
    let here = c.requires.here in
    rw (c.put_service.ensures, c.tick-reports.ensures.after)
    (kept_ticked _ (plain_description c.deref.result.now) _ _ _ _ c.self.invariant (rw (sym c.self.view_is) at here))

pub invariant_of-self-2 : goal.invariant_of-self-2
invariant_of-self-2 c =
    let here = c.requires.here in
    rw (c.put_service.ensures, c.tick-reports.ensures.after)
    (kept_ticked _ (plain_description c.deref.result.now) _ _ _ _ c.self.invariant (rw (sym c.self.view_is) at here))
