-- By the first of the rules.
use Rattle.std.proofs.Common.{refl}
use Rattle.pol_events.specs.Events.{variable}
use Rattle.pol_core.specs.Plants.{plant_history}
use Rattle.pol_foresight.proofs.Ruled.{by_rule}
use Rattle.pol_foresight.proofs.modules.variable.Goals as goal

pub returns : goal.returns
returns c =
    λ at room.
    by_rule (plant_history c.args.plant.now) (variable at c.args.tag c.args.name c.args.value.now) c.variable_rule.result
    c.done_unless.result (c.variable_rule.ensures at) refl c.done_unless.ensures room
