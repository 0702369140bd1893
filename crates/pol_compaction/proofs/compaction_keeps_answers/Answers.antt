use Rattle.pol_compaction.proofs.Law.{kept_again, later_alike_again, lines_alike}
use Rattle.pol_compaction.proofs.compaction_keeps_answers.Goals as goal

pub returns-clause-kept : goal.returns-clause-kept
returns-clause-kept c = kept_again

pub returns-clause-later : goal.returns-clause-later
returns-clause-later c = later_alike_again

pub returns-clause-lines : goal.returns-clause-lines
returns-clause-lines c = lines_alike
