use Rattle.pol_ledger.proofs.OneSum.{follows_one}
use Rattle.pol_ledger.proofs.laws.records_follow_one_ledger.Goals as goal

pub returns : goal.returns
returns c = follows_one
