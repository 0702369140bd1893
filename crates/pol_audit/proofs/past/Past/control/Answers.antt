use Rattle.std.proofs.Common.{◌∙◌}
use Rattle.pol_audit.proofs.Placing.{placed_now}
use Rattle.pol_audit.proofs.past.Past.control.Goals as goal

pub returns : goal.returns
returns c = c.last.ensures ∙ (placed_now _ c.self.view_is c.self.invariant).controls c.args.tag c.args.service
