use Rattle.std.proofs.Common.{◌∙◌}
use Rattle.pol_audit.proofs.log.Log.was_held.Goals as goal

pub returns : goal.returns
returns c = c.is_one_of.ensures ∙ c.args.self.now.holds c.args.step
