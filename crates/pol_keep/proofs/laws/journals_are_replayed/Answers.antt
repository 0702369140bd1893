use Rattle.pol_keep.proofs.Replayable.{journals_replayed}
use Rattle.pol_keep.proofs.laws.journals_are_replayed.Goals as goal

pub returns : goal.returns
returns c = journals_replayed c.replays_answer.ensures
