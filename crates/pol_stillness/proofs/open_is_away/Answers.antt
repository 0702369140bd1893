use Rattle.pol_stillness.proofs.Exchanges.{open_away}
use Rattle.pol_stillness.proofs.open_is_away.Goals as goal

pub returns : goal.returns
returns c = open_away
