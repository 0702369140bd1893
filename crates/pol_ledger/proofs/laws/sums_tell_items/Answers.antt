use Rattle.pol_ledger.proofs.OneSum.{sums_tell}
use Rattle.pol_ledger.proofs.laws.sums_tell_items.Goals as goal

pub returns : goal.returns
returns c = sums_tell
