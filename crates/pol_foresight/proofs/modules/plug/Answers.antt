-- By the first of the rules.
use Rattle.std.proofs.Common.{refl}
use Rattle.pol_events.specs.Events.{plug}
use Rattle.pol_core.specs.Plants.{plant_history}
use Rattle.pol_foresight.proofs.Ruled.{by_rule}
use Rattle.pol_foresight.proofs.modules.plug.Goals as goal

pub returns : goal.returns
returns c =
    λ description at room.
    by_rule (plant_history c.args.plant.now) (plug at c.args.tag description) c.plug_rule.result
    c.done_unless.result (c.plug_rule.ensures at description) refl c.done_unless.ensures room
