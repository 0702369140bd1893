-- There are as many as in the table.
use Rattle.std.proofs.Common.{◌∙◌}
use Rattle.pol_core.proofs.modules.module_count.Goals as goal

pub returns : goal.returns
returns c = λ history counted. c.len.ensures ∙ counted.count
