use Rattle.std.proofs.Common.{◌∙◌, ap}
use Rattle.pol_live.specs.Seats.{Seated}
use Rattle.pol_live.proofs.Seats.{seat_kept}
use Rattle.pol_live.proofs.acting.pass.Goals as goal

pub returns-in-Ok-Full : goal.returns-in-Ok-Full
returns-in-Ok-Full g c =
    let same = c.turn.ensures.actor ∙ ap (λ (seat : Seated). seat.actor) c.index_mut-seat.ensures.value in
    seat_kept c.loop-i.seats.items c.loop-i.i c.turn.new.seat c.index_mut-seat.result.now same ∙ c.loop-i.invariant.1

pub loop-i-preserved : goal.loop-i-preserved
loop-i-preserved g c =
    let same = c.turn.ensures.actor ∙ ap (λ (seat : Seated). seat.actor) c.index_mut-seat.ensures.value in (
      c.loop-i.invariant.0,
      seat_kept c.loop-i.seats.items c.loop-i.i c.turn.new.seat c.index_mut-seat.result.now same ∙ c.loop-i.invariant.1,
    )
