use Rattle.pol_find.proofs.Starting.{told_bindings_start}
use Rattle.pol_find.proofs.told_bindings_start.Goals as goal

pub returns : goal.returns
returns c = told_bindings_start
