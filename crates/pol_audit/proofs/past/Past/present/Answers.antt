use Rattle.std.proofs.Common.{◌∙◌}
use Rattle.pol_audit.proofs.Placing.{placed_now}
use Rattle.pol_audit.proofs.past.Past.present.Goals as goal

pub returns : goal.returns
returns c = c.deref.ensures.value ∙ (placed_now _ c.self.view_is c.self.invariant).present
