-- A docked module: its description, and what the service reported last.
use Rattle.std.proofs.Common.{◌∙◌, ap, sym}
use Rattle.pol_events.specs.Refusals.{not_an_edge}
use Rattle.pol_history.specs.Looking.{past}
use Rattle.pol_history.specs.Modules.{control_by, description_of, docking_of}
use Rattle.pol_core.specs.Plants.{plant_history}
use Rattle.pol_foresight.specs.Foreseen.{control_in}
use Rattle.pol_foresight.proofs.Looked.{NoneAgainst, control_seen, report_found}
use Rattle.pol_foresight.proofs.modules.report_rule.Goals as goal

pub returns-in-None : goal.returns-in-None
returns-in-None c =
    λ at.
    let history = plant_history c.args.plant.now in
    let tag = c.args.tag in
    let service = c.args.service in
    let state = c.args.control.state in
    let control = control_by service (past tag history) in
    let none : NoneAgainst tag (docking_of history tag) = sym c.not_docked.ensures ∙ c.in_default.is in
    report_found tag service state (docking_of history tag) (description_of history tag) control c.not_an_edge.result
    none (sym c.lacks_service.ensures ∙ c.in-None.is)
    (c.not_an_edge.ensures
    ∙ ap (λ sight. not_an_edge state (control_in sight)) c.view.ensures
    ∙ ap (not_an_edge state)
    (control_seen tag service (docking_of history tag) (description_of history tag) control none))
