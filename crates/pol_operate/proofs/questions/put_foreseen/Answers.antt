use Rattle.std.proofs.Common.{◌∙◌, ap, sym}
use Rattle.named_lines.specs.Named.{plain_named}
use Rattle.pol_core.specs.Plants.{PlainPlant, plant_history}
use Rattle.pol_events.specs.Events.{plain_event}
use Rattle.pol_operate.specs.Lines.{asked_by}
use Rattle.pol_operate.specs.Saying.{foreseen_text}
use Rattle.pol_operate.proofs.Foreseen.{would_be_answered}
use Rattle.pol_operate.proofs.Going.{put_alike}
use Rattle.pol_operate.proofs.questions.put_foreseen.Goals as goal

pub returns-then-is_begun : goal.returns-then-is_begun
returns-then-is_begun c =
    let said = c.args.said.now in
    let foreseen = would_be_answered c.args.ledger.now (asked_by (plain_named said)) c.plant.ensures.history
    (sym c.is_begun.ensures ∙ c.if-is_begun.true) in
    put_alike c.put_foreseen_line.result _ _ _ _
    (ap (λ (plant : PlainPlant). foreseen_text (plant_history plant) (plain_event said.event)) c.plant.ensures.plant
    ∙ foreseen) c.put_foreseen_line.ensures
