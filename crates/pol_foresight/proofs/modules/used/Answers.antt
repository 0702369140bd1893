-- The batch that holds the module, or else the first that watches it.
use Rattle.std.proofs.Common.{◌∙◌, sym}
use Rattle.pol_history.specs.Batches.{holder_of, watchers_of}
use Rattle.pol_core.specs.Plants.{plant_history}
use Rattle.pol_foresight.proofs.Looked.{used_by}
use Rattle.pol_foresight.proofs.modules.used.Goals as goal

pub returns-in_err-batch : goal.returns-in_err-batch
returns-in_err-batch c =
    let history = plant_history c.args.plant.now in
    c.from_residual.ensures
    ∙ used_by (holder_of history c.args.tag) (watchers_of history c.args.tag) _ (sym c.in_default.is ∙ c.holder.ensures)
    (sym c.in_err-batch.was ∙ c.watcher.ensures)

pub returns : goal.returns
returns c =
    let history = plant_history c.args.plant.now in
    used_by (holder_of history c.args.tag) (watchers_of history c.args.tag) _ (sym c.in_default.is ∙ c.holder.ensures)
    (sym c.in_ok-batch.was ∙ c.watcher.ensures)
