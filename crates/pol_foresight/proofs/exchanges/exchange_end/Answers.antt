-- By what refuses it.
use Rattle.std.proofs.Common.{refl}
use Rattle.mtp_desc.specs.PlainDescription.{plain_description}
use Rattle.pol_events.specs.Events.{exchange_end}
use Rattle.pol_core.specs.Plants.{plant_history}
use Rattle.pol_foresight.proofs.Ruled.{by_refusal}
use Rattle.pol_foresight.proofs.exchanges.exchange_end.Goals as goal

pub returns : goal.returns
returns c =
    λ at room.
    by_refusal (plant_history c.args.plant.now) (exchange_end at c.args.tag c.args.ticket
    (plain_description c.args.desc.now)) c.would_end.result c.done_or_refused.result
    (c.would_end.ensures at) refl c.done_or_refused.ensures
