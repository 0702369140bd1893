use Rattle.std.proofs.Common.{ap, ◌∙◌}
use Rattle.chart_cursor.specs.Logs.{has_broken}
use Rattle.pol_audit.proofs.Halting.{broken_among}
use Rattle.pol_audit.proofs.log.Log.has_broken.Goals as goal

pub returns : goal.returns
returns c = c.has_broken.ensures ∙ ap has_broken c.args.self.now.halted ∙ broken_among c.args.self.now.whole.now
