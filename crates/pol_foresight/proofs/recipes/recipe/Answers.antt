-- By the first of the rules.
use Rattle.std.proofs.Common.{refl}
use Rattle.pol_events.specs.Events.{recipe}
use Rattle.pol_core.specs.Plants.{plant_history}
use Rattle.pol_foresight.proofs.Ruled.{by_rule}
use Rattle.pol_foresight.proofs.recipes.recipe.Goals as goal

pub returns : goal.returns
returns c =
    λ chart at room.
    by_rule (plant_history c.args.plant.now) (recipe at c.args.name chart) c.recipe_rule.result
    c.done_unless.result (c.recipe_rule.ensures at chart) refl c.done_unless.ensures room
