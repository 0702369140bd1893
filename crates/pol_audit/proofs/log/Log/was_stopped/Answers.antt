use Rattle.std.proofs.Common.{ap, ◌∙◌}
use Rattle.chart_cursor.specs.Logs.{was_stopped}
use Rattle.pol_audit.proofs.Halting.{stopped_among}
use Rattle.pol_audit.proofs.log.Log.was_stopped.Goals as goal

pub returns : goal.returns
returns c = c.was_stopped.ensures ∙ ap was_stopped c.args.self.now.halted ∙ stopped_among c.args.self.now.whole.now
