-- The watchers by the table are the watchers.
use Rattle.std.proofs.Common.{◌∙◌, ap}
use Rattle.std.specs.Prelude.{slice_get}
use Rattle.pol_core.proofs.Unfit.{watchers_same}
use Rattle.pol_core.proofs.modules.watcher.Goals as goal

pub returns : goal.returns
returns c =
    λ history seats.
    c.watcher.ensures
    ∙ ap (λ batches. slice_get batches c.args.place) (watchers_same c.args.modules.now history c.args.tag seats)
