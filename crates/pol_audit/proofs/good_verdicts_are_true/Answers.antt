use Rattle.pol_audit.proofs.Truth.{good_is_true}
use Rattle.pol_audit.proofs.good_verdicts_are_true.Goals as goal

pub returns : goal.returns
returns c = good_is_true
