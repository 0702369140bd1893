use Rattle.pol_stillness.proofs.Owing.{unanswered_owed}
use Rattle.pol_stillness.proofs.unanswered_are_owed.Goals as goal

pub returns : goal.returns
returns c = unanswered_owed
