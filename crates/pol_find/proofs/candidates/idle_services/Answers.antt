-- A service that is idle is told, and no other.
use Rattle.std.proofs.Common.{◌++◌, ◌∷◌, [], ◌∙◌, ap, cond, sym}
use Rattle.mtp_desc.specs.PlainDescription.{plain_description}
use Rattle.pol_core.specs.Plants.{plant_history}
use Rattle.pol_find.specs.Candidates.{idle_services}
use Rattle.pol_find.proofs.Idle.{idle_next}
use Rattle.pol_find.proofs.candidates.idle_services.Goals as goal
use Rattle.pol_find.proofs.candidates.idle_services.Goals.{then-is_idle+in_ok-push, else-is_idle}

pub loop-service-preserved : goal.loop-service-preserved
loop-service-preserved c =
    let history = plant_history c.args.plant.now in
    let before = c.loop-service.idle.items in
    let more = before ++ c.service-item.result.name ∷ [] in
    idle_next history c.args.tag c.deref-service-items.result.now c.loop-service.service-index c.service-item.result
    before c.if-is_idle.idle.items (idle_services history c.args.tag (plain_description c.args.description.now))
    c.loop-service-test.true c.service-item.is c.loop-service.invariant
    (elim c.if-is_idle.branch [
      | then-is_idle+in_ok-push w ↦
          ap (λ idle. idle.items) w.idle-is ∙ w.in_ok-push.ensures.items
          ∙ ap (λ idle. cond idle more before) (sym (w.if-is_idle.true) ∙ c.is_idle.ensures)
      | else-is_idle w ↦
          ap (λ idle. idle.items) w.idle-is
          ∙ ap (λ idle. cond idle more before) (sym (w.if-is_idle.false) ∙ c.is_idle.ensures)
    ])
