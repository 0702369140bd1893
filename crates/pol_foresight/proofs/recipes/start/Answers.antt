-- By what refuses it.
use Rattle.std.proofs.Common.{refl}
use Rattle.pol_events.specs.Events.{start}
use Rattle.pol_core.specs.Plants.{plant_history}
use Rattle.pol_foresight.proofs.Ruled.{by_refusal}
use Rattle.pol_foresight.proofs.recipes.start.Goals as goal

pub returns : goal.returns
returns c =
    λ at room.
    by_refusal (plant_history c.args.plant.now) (start at c.args.batch c.args.recipe
    (record { held = c.args.bind.now; watched = c.args.watch.now })) c.would_start.result c.done_or_refused.result
    (c.would_start.ensures at) refl c.done_or_refused.ensures
