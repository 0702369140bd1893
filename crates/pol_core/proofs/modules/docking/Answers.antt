-- A docked module, by its slot.
use Rattle.std.proofs.Common.{◌+◌, ◌∙◌, sym, ap}
use Rattle.pol_history.specs.Looking.{past}
use Rattle.pol_history.specs.Modules.{docked}
use Rattle.pol_core.proofs.Docked.{docked_is}
use Rattle.pol_core.proofs.Telling.{seated_slot}
use Rattle.pol_core.proofs.modules.docking.Goals as goal

pub returns-in-None : goal.returns-in-None
returns-in-None c =
    λ history seats.
    let slot = c.in-Some.slot.now in
    ap (λ n. docked (n + 1)) c.begins.ensures
    ∙ docked_is c.args.tag slot (past c.args.tag history)
    (seated_slot history c.args.tag c.args.modules.now slot seats (sym c.in-Some.ensures))
    (sym c.ticket.ensures ∙ c.in-None.is)
