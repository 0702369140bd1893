use Rattle.pol_find.proofs.Starting.{bindings_start}
use Rattle.pol_find.proofs.bindings_start.Goals as goal

pub returns : goal.returns
returns c = bindings_start
