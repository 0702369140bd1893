-- What a slot shows of a service is what its module's past shows; a tag without a slot is absent.
use Rattle.std.proofs.Common.{◌∙◌, sym, ap}
use Rattle.pol_history.specs.Looking.{past}
use Rattle.pol_history.specs.Modules.{docking_by, view_by}
use Rattle.pol_core.specs.Calls.{module_sight}
use Rattle.pol_core.proofs.Sights.{seen_there, slot_sight_is}
use Rattle.pol_core.proofs.Telling.{absent_without, seated_slot}
use Rattle.pol_core.proofs.modules.view.Goals as goal

pub returns-in-None : goal.returns-in-None
returns-in-None c =
    λ history seats.
    sym (ap (λ docking. module_sight docking (view_by c.args.service (past c.args.tag history)))
    (absent_without history c.args.tag c.args.modules.now seats (sym c.in-None.ensures)))

pub returns-in-Some : goal.returns-in-Some
returns-in-Some c =
    λ history seats.
    let keeps = seated_slot history c.args.tag c.args.modules.now c.in-Some.slot.now seats (sym c.in-Some.ensures) in
    let own = past c.args.tag history in
    c.view.ensures
    ∙ slot_sight_is c.args.tag c.args.service c.in-Some.slot.now own keeps
    ∙ seen_there (docking_by own) (view_by c.args.service own) keeps.is_there
