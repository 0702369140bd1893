use Rattle.std.proofs.Common.{◌≡◌, ◌∙◌, ap, length, sym}
use Rattle.pol_events.specs.Events.{plain_event}
use Rattle.pol_core.specs.Plants.{plant_history}
use Rattle.pol_events.proofs.Histories.{length_history}
use Rattle.pol_live.proofs.Entered.{entered}
use Rattle.pol_live.proofs.entering.enter_spared.Goals as goal

pub returns-clause-ok : goal.returns-clause-ok
returns-clause-ok g c =
    let place : length c.history.result.now ≡ length (plant_history c.args.plant.now) =
    ap length c.history.ensures.entries ∙ sym (length_history c.args.plant.now.entries) in
    entered (plant_history c.args.plant.now) (plant_history c.apply.new.self) (plain_event c.stamped.result)
    (plain_event c.args.event) c.in-Ok.answer (g.C.Clock.last c.now-now.new.self) c.now-now.result
    (length c.history.result.now) (g.C.Clock.calls c.args.clock.now) (g.C.Clock.calls c.now-now.new.self)
    c.requires.room
    c.stamped.ensures c.now-now.ensures.last place c.in-Ok.ensures.answer c.in-Ok.ensures.history
    c.now-now.ensures.calls
