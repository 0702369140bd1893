-- The plant with one more entry.
use Rattle.std.proofs.Common.{◌<◌, ◌∙◌, ◌∷◌, ◌++◌, [], ap, length, arith}
use Rattle.mtp_codes.specs.declared.limits.TheConstants.{LONGEST_HISTORY}
use Rattle.pol_events.specs.Events.{plain_event, plain_history}
use Rattle.pol_history.specs.Runs.{entry_of, recorded}
use Rattle.pol_core.specs.Plants.{PlainPlant, plant_history}
use Rattle.pol_core.proofs.Away.{begun_few}
use Rattle.pol_core.proofs.Together.{grown, recorded_is, short_has_room}
use Rattle.pol_core.proofs.plant.Plant.apply.Goals as goal

pub invariant_of-self-2 : goal.invariant_of-self-2
invariant_of-self-2 c =
    let room = c.if-len-ge-LONGEST_HISTORY.false in
    let len = c.len.ensures in
    let short : length c.self.inside.history.items < LONGEST_HISTORY = omega arith in
    grown c.self.inside.history.items c.append.new.history.items c.args.event c.in-Ok.answer
    c.answer_event.new.modules c.answer_event.new.runs.entries c.answer_event.new.recipes.entries
    (c.append.ensures.items ∙ ap (λ items. items ++ record {
      event = c.args.event;
      answer = c.in-Ok.answer;
    } ∷ []) c.in_default.ensures.items)
    short c.requires.orderly c.self.invariant.0
    (c.in-Ok.ensures.answered (plain_history c.self.inside.history.items) c.self.invariant.1
    (short_has_room c.self.inside.history.items short))

pub returns-clause-history : goal.returns-clause-history
returns-clause-history c =
    let room = c.if-len-ge-LONGEST_HISTORY.false in
    let len = c.len.ensures in
    let short : length c.self.inside.history.items < LONGEST_HISTORY = omega arith in
    recorded_is c.self.inside.history.items c.append.new.history.items c.args.event c.in-Ok.answer
    (c.append.ensures.items ∙ ap (λ items. items ++ record {
      event = c.args.event;
      answer = c.in-Ok.answer;
    } ∷ []) c.in_default.ensures.items)
    short
    (c.in-Ok.ensures.answered (plain_history c.self.inside.history.items) c.self.invariant.1
    (short_has_room c.self.inside.history.items short)).answer_is
    ∙ ap (λ (plant : PlainPlant). recorded (entry_of (plant_history plant) (plain_event c.args.event))
    (plant_history plant)) c.self.view_is

pub answer_event-requires-clause-few : goal.answer_event-requires-clause-few
answer_event-requires-clause-few c = begun_few c.self.inside.modules
    (plain_history c.self.inside.history.items) c.self.invariant.1.seats c.self.invariant.0.few
