use Rattle.std.proofs.Common.{ap, sym, ◌∙◌}
use Rattle.std.specs.Prelude.{slice_get}
use Rattle.mtp_desc.specs.PlainDescription.{plain_description}
use Rattle.mtp_sim.proofs.Edges.{pending_none}
use Rattle.mtp_sim.proofs.Indexed.{kept_taken}
use Rattle.mtp_sim.proofs.sim.Sim.take_at.Goals as goal

pub invariant_of-self : goal.invariant_of-self
invariant_of-self c =
    let calm = c.requires.calm in
    rw c.put_service.ensures
    (kept_taken _ (plain_description c.deref-2.result.now) _ _ c.in-Some.service c.args.command c.args.procedure _
    (pending_none _ _ (rw (sym c.self.view_is) at calm)) c.self.invariant
    (sym (ap (λ services. slice_get services c.args.place) c.deref.ensures.value) ∙ sym c.service_at.ensures ∙
    c.in-Some.is)
    (sym c.taken.ensures ∙ c.in-Some-taken.is))
