-- A docked module: its description, and what the service reported last.
use Rattle.std.proofs.Common.{◌∙◌, ap, sym}
use Rattle.pol_events.specs.Events.{desk}
use Rattle.pol_events.specs.declared.answer.Answer.TheVariants.{Did, Refused}
use Rattle.pol_history.specs.Modules.{description_of, docking_of, view_of}
use Rattle.pol_history.proofs.Accepted.{with_room}
use Rattle.pol_core.specs.Plants.{plant_history}
use Rattle.pol_core.specs.Seats.{asked_answer}
use Rattle.pol_foresight.specs.Foreseen.{sight_asked}
use Rattle.pol_foresight.proofs.Looked.{desk_found}
use Rattle.pol_foresight.proofs.modules.desk.Goals as goal

pub returns-in-Ok : goal.returns-in-Ok
returns-in-Ok c =
    λ at room.
    let history = plant_history c.args.plant.now in
    let tag = c.args.tag in
    desk_found tag c.args.service c.args.command (docking_of history tag) (description_of history tag)
    (view_of history tag c.args.service) (Did c.in-Ok.entry) (sym c.not_docked.ensures ∙ c.in_default.is)
    (sym c.lacks_service.ensures ∙ c.in_default-lacks_service.is)
    (ap asked_answer (sym c.in-Ok.is ∙ c.ask.ensures
    ∙ ap (sight_asked tag c.args.service c.args.command) c.view.ensures))
    ∙ sym (with_room history (desk at tag c.args.service c.args.command) room)

pub returns-in-Err : goal.returns-in-Err
returns-in-Err c =
    λ at room.
    let history = plant_history c.args.plant.now in
    let tag = c.args.tag in
    desk_found tag c.args.service c.args.command (docking_of history tag) (description_of history tag)
    (view_of history tag c.args.service) (Refused c.in-Err.rule) (sym c.not_docked.ensures ∙ c.in_default.is)
    (sym c.lacks_service.ensures ∙ c.in_default-lacks_service.is)
    (ap asked_answer (sym c.in-Err.is ∙ c.ask.ensures
    ∙ ap (sight_asked tag c.args.service c.args.command) c.view.ensures))
    ∙ sym (with_room history (desk at tag c.args.service c.args.command) room)
