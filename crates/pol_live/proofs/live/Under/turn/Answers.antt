use Rattle.pol_live.proofs.Seats.{took_turn}
use Rattle.pol_live.proofs.live.Under.turn.Goals as goal

pub returns-clause-turned : goal.returns-clause-turned
returns-clause-turned g c =
    took_turn g.J.Job.site _ _ c.args.seat.now.actor c.turn-turned.result c.is_of_a_run.ensures c.is_of_a_run-2.ensures
    c.turn-turned.ensures.turned
