use Rattle.pol_board.proofs.Moves.{joins}
use Rattle.pol_board.proofs.joining.joins_keep_the_rule.Goals as goal

pub returns : goal.returns
returns c = joins
