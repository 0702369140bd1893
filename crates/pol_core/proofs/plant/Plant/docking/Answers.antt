-- Each module has begun few exchanges, since the history is short.
use Rattle.pol_events.specs.Events.{plain_history}
use Rattle.pol_core.proofs.Away.{begun_few}
use Rattle.pol_core.proofs.plant.Plant.docking.Goals as goal

pub docking-requires : goal.docking-requires
docking-requires c =
    begun_few c.self.inside.modules (plain_history c.self.inside.history.items) c.self.invariant.1.seats
    c.self.invariant.0.few
