use Rattle.pol_compaction.proofs.Answering.{alike_answered}
use Rattle.pol_compaction.proofs.alike_answers_alike.Goals as goal

pub returns : goal.returns
returns c = alike_answered
