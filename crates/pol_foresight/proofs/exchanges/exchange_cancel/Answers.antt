-- By the first of the rules.
use Rattle.std.proofs.Common.{refl}
use Rattle.pol_events.specs.Events.{exchange_cancel}
use Rattle.pol_core.specs.Plants.{plant_history}
use Rattle.pol_foresight.proofs.Ruled.{by_rule}
use Rattle.pol_foresight.proofs.exchanges.exchange_cancel.Goals as goal

pub returns : goal.returns
returns c =
    λ at room.
    by_rule (plant_history c.args.plant.now) (exchange_cancel at c.args.tag c.args.ticket) c.cancel_rule.result
    c.done_unless.result (c.cancel_rule.ensures at) refl c.done_unless.ensures room
