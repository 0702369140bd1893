use Rattle.pol_operate.proofs.Quiet.{questions_are_quiet}
use Rattle.pol_operate.proofs.laws.questions_change_nothing.Goals as goal

pub returns : goal.returns
returns c = questions_are_quiet
