-- The refusal of the defined answer.
use Rattle.std.proofs.Common.{◌≡◌, ◌∙◌, sym, ap, refl, length}
use Rattle.mtp_desc.specs.PlainDescription.{plain_description}
use Rattle.pol_events.specs.Events.{plain_history, exchange_end}
use Rattle.pol_history.specs.Answers.{answer_of}
use Rattle.pol_core.specs.Calls.{refusal, refused_first}
use Rattle.pol_core.specs.Plants.{PlainPlant, plant_history}
use Rattle.pol_core.proofs.Looked.{refused_by}
use Rattle.pol_events.proofs.Histories.{length_history}
use Rattle.pol_core.proofs.plant.Plant.would_end.Goals as goal

pub returns : goal.returns
returns c =
    λ at.
    let entries = c.self.inside.history.items in
    let event = exchange_end at c.args.tag c.args.ticket (plain_description c.args.desc.now) in
    let counted : length c.deref.result.now ≡ length (plain_history entries) = ap length c.deref.ensures.value
    ∙ sym (length_history entries) in
    c.unless_refused.ensures
    ∙ ap (λ n. refused_first n c.end_rule-rule.result) counted
    ∙ refused_by (plain_history entries) event c.end_rule-rule.result
    (c.end_rule-rule.ensures (plain_history entries) at c.self.invariant.1.seats c.self.invariant.1.batches) refl
    ∙ ap (λ (plant : PlainPlant). refusal (answer_of (plant_history plant) event)) c.self.view_is
