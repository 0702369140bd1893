use Rattle.std.proofs.Common.{◌≡◌, map, sym, ap, ◌∙◌, Some}
use Rattle.std.specs.Option.{option_map}
use Rattle.mtp_desc.specs.PlainDescription.{plain_description}
use Rattle.mtp_desc.specs.PlainService.{plain_service}
use Rattle.pol_events.specs.Events.{plain_history}
use Rattle.pol_events.specs.Refusals.{not_at_rest}
use Rattle.pol_history.specs.Looking.{past}
use Rattle.pol_history.specs.Modules.{description_by, control_by}
use Rattle.pol_audit.proofs.module_rules.not_at_rest.Goals as goal

-- the services that are asked are those of the description
pub returns : goal.returns
returns c =
    let known : description_by (past c.args.tag (plain_history c.args.history.now))
    ≡ Some (plain_description c.in_ok-description.description.now)
    = sym c.description_of.ensures
    ∙ ap (option_map (λ description. plain_description description.now)) c.in_ok-description.was in
    rw known (c.first_not_at_rest.ensures
    ∙ ap (λ services. not_at_rest
    (λ service. control_by service (past c.args.tag (plain_history c.args.history.now)))
    (map plain_service services)) c.deref.ensures.value)
