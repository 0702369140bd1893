use Rattle.std.proofs.Common.{◌∙◌, ap}
use Rattle.pol_events.specs.Events.{start}
use Rattle.pol_history.specs.Answers.{answer_of}
use Rattle.pol_core.specs.Calls.{refusal}
use Rattle.pol_core.specs.Plants.{plant_history}
use Rattle.pol_actors.specs.Batches.{is_refusal_passing}
use Rattle.pol_actors.proofs.batch.waits.Goals as goal

pub returns : goal.returns
returns c =
    c.is_refusal_passing.ensures ∙ ap is_refusal_passing (c.would_start.ensures 0)
    ∙ ap (λ held. is_refusal_passing (refusal (answer_of (plant_history c.args.plant.now)
    (start 0 c.args.batch.now.batch c.args.batch.now.recipe (record { held = held; watched = c.deref-2.result.now })))))
    c.deref.ensures.value
    ∙ ap (λ watched. is_refusal_passing (refusal (answer_of (plant_history c.args.plant.now)
    (start 0 c.args.batch.now.batch c.args.batch.now.recipe
    (record { held = c.args.batch.now.bind.items; watched = watched }))))) c.deref-2.ensures.value
