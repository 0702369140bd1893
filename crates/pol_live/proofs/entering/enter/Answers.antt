use Rattle.std.proofs.Common.{◌≡◌, ◌∙◌, List, ap, length, subst, sym}
use Rattle.pol_events.specs.Events.{plain_event, plain_history}
use Rattle.pol_events.specs.declared.event.Entry.{Entry}
use Rattle.pol_history.specs.Answers.{answer_of}
use Rattle.pol_history.specs.Runs.{entry_of, recorded}
use Rattle.pol_core.specs.Plants.{plant_history}
use Rattle.pol_events.proofs.Histories.{length_history}
use Rattle.pol_live.proofs.Entered.{entered}
use Rattle.pol_live.proofs.entering.enter.Goals as goal

pub returns-clause-ok : goal.returns-clause-ok
returns-clause-ok g c =
    let same = c.in_ok-reserve.ensures.entries in
    let event = plain_event c.stamped.result in
    let place : length c.history.result.now ≡ length (plant_history c.args.plant.now) =
    ap length (c.history.ensures.entries ∙ same) ∙ sym (length_history c.args.plant.now.entries) in
    entered (plant_history c.args.plant.now) (plant_history c.apply.new.self) event (plain_event c.args.event)
    c.in-Ok.answer (g.C.Clock.last c.now-now.new.self) c.now-now.result (length c.history.result.now)
    (g.C.Clock.calls c.args.clock.now) (g.C.Clock.calls c.now-now.new.self) c.requires.room c.stamped.ensures
    c.now-now.ensures.last place
    (subst (λ (es : List Entry). c.in-Ok.answer ≡ answer_of (plain_history es) event) same c.in-Ok.ensures.answer)
    (subst (λ (es : List Entry). plant_history c.apply.new.self
    ≡ recorded (entry_of (plain_history es) event) (plain_history es)) same c.in-Ok.ensures.history)
    c.now-now.ensures.calls
