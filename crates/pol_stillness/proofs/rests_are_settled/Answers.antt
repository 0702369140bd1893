use Rattle.pol_stillness.proofs.Resting.{rests_settled}
use Rattle.pol_stillness.proofs.rests_are_settled.Goals as goal

pub returns : goal.returns
returns c = rests_settled
