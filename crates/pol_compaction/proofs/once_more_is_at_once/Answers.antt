use Rattle.pol_compaction.proofs.OnceMore.{once_more}
use Rattle.pol_compaction.proofs.once_more_is_at_once.Goals as goal

pub returns : goal.returns
returns c = once_more
