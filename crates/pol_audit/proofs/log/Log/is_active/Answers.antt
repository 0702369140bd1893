use Rattle.std.proofs.Common.{◌∙◌}
use Rattle.pol_audit.proofs.log.Log.is_active.Goals as goal

pub returns : goal.returns
returns c = c.is_one_of.ensures ∙ c.args.self.now.runs c.args.step
