-- By the first of the rules.
use Rattle.std.proofs.Common.{refl}
use Rattle.pol_events.specs.Events.{unplug}
use Rattle.pol_core.specs.Plants.{plant_history}
use Rattle.pol_foresight.proofs.Ruled.{by_rule}
use Rattle.pol_foresight.proofs.modules.unplug.Goals as goal

pub returns : goal.returns
returns c =
    λ at room.
    by_rule (plant_history c.args.plant.now) (unplug at c.args.tag) c.unplug_rule.result
    c.done_unless.result (c.unplug_rule.ensures at) refl c.done_unless.ensures room
