-- A slot keeps the description of its module, which is there.
use Rattle.std.proofs.Common.{Some, ◌∙◌, sym, ap}
use Rattle.pol_core.proofs.Telling.{seated_slot}
use Rattle.pol_core.proofs.modules.description.Goals as goal

pub returns-in-Some-clause-known : goal.returns-in-Some-clause-known
returns-in-Some-clause-known c =
    λ history seats.
    (seated_slot history c.args.tag c.args.modules.now c.in-Some.slot.now seats (sym c.in-Some.ensures)).description
    ∙ ap Some (sym c.description.ensures)

pub returns-in-Some-clause-there : goal.returns-in-Some-clause-there
returns-in-Some-clause-there c =
    λ history seats.
    (seated_slot history c.args.tag c.args.modules.now c.in-Some.slot.now seats (sym c.in-Some.ensures)).is_there
