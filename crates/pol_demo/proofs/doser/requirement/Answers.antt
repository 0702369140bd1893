use Rattle.pol_demo.proofs.Versions.{memory_alone}
use Rattle.pol_demo.proofs.doser.requirement.Goals as goal

pub returns-clause-wanting : goal.returns-clause-wanting
returns-clause-wanting c = memory_alone c.parse.result c.parse.ensures.err
