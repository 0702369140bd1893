use Rattle.chart_core.proofs.Validity.{valid_distinct}
use Rattle.chart_core.proofs.Lawful.{names_tell_steps}
use Rattle.chart_core.proofs.laws.names_are_distinct.Goals as goal

pub returns-clause-names : goal.returns-clause-names
returns-clause-names c = valid_distinct

pub returns-clause-steps : goal.returns-clause-steps
returns-clause-steps c = names_tell_steps
