-- The refusal of the defined answer.
use Rattle.std.proofs.Common.{◌≡◌, ◌∙◌, sym, ap, refl, length}
use Rattle.pol_events.specs.Events.{plain_history, start}
use Rattle.pol_history.specs.Answers.{answer_of}
use Rattle.pol_core.specs.Calls.{refusal, refused_first}
use Rattle.pol_core.specs.Plants.{PlainPlant, plant_history}
use Rattle.pol_core.proofs.Looked.{refused_by}
use Rattle.pol_events.proofs.Histories.{length_history}
use Rattle.pol_core.proofs.plant.Plant.would_start.Goals as goal

pub returns : goal.returns
returns c =
    λ at.
    let entries = c.self.inside.history.items in
    let counted : length c.deref.result.now ≡ length (plain_history entries) = ap length c.deref.ensures.value
    ∙ sym (length_history entries) in
    c.unless_refused.ensures
    ∙ ap (λ n. refused_first n c.start_rule-rule.result) counted
    ∙ refused_by (plain_history entries) (start at c.args.batch c.args.recipe
    (record { held = c.args.binds.now; watched = c.args.watches.now })) c.start_rule-rule.result
    (c.start_rule-rule.ensures (plain_history entries) at c.self.invariant.1) refl
    ∙ ap (λ (plant : PlainPlant). refusal (answer_of (plant_history plant)
    (start at c.args.batch c.args.recipe
    (record { held = c.args.binds.now; watched = c.args.watches.now })))) c.self.view_is
