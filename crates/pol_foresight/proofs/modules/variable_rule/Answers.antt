-- A docked module: its description.
use Rattle.std.proofs.Common.{◌∙◌, [], ◌∷◌, ap, sym}
use Rattle.mtp_codes.specs.Faults.{first_of}
use Rattle.mtp_desc.specs.PlainDescription.{plain_description}
use Rattle.mtp_desc.specs.declared.description.Description.{Description}
use Rattle.pol_events.specs.Refusals.{no_variable, value_misfit}
use Rattle.pol_history.specs.Modules.{description_of, docking_of}
use Rattle.pol_core.specs.Plants.{plant_history}
use Rattle.pol_foresight.proofs.Looked.{variable_found}
use Rattle.pol_foresight.proofs.modules.variable_rule.Goals as goal

pub returns : goal.returns
returns c =
    λ at.
    let history = plant_history c.args.plant.now in
    let described = c.in_ok-description.description.now.value in
    variable_found c.args.tag c.args.name c.args.value.now (docking_of history c.args.tag)
    (description_of history c.args.tag) (plain_description described) c.misfit.result
    (sym c.not_docked.ensures ∙ c.in_default.is) c.in_ok-description.ensures.known
    (c.misfit.ensures
    ∙ ap (λ (desc : Description). first_of (no_variable c.args.name (plain_description desc)
    ∷ value_misfit c.args.name c.args.value.now (plain_description desc) ∷ [])) c.deref.ensures)
