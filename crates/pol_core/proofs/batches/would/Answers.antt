-- What comes next for an open batch.
use Rattle.pol_core.proofs.Looked.{open_comes}
use Rattle.pol_core.proofs.batches.would.Goals as goal

pub returns-in-Ok : goal.returns-in-Ok
returns-in-Ok c =
    λ history seats batches.
    open_comes history c.args.batch c.args.modules.now c.in-Ok.run'.now c.args.runs.now.entries
    c.next_of.result seats batches c.in-Ok.ensures.run
    c.next_of.ensures
