use Rattle.pol_retold.proofs.Replayed.{replays_answer}
use Rattle.pol_retold.proofs.replays_answer.Goals as goal

pub returns : goal.returns
returns c = replays_answer
