-- Of a variable that a docked module has the kind decides.
use Rattle.std.proofs.Common.{sym, ap, ◌∙◌, is_none, option_and_then, option_map}
use Rattle.mtp_codes.specs.Faults.{when, done_unless}
use Rattle.mtp_assembly.specs.Fits.{view_fault}
use Rattle.mtp_desc.specs.PlainDescription.{plain_description}
use Rattle.mtp_desc.specs.Lookup.{variable_named}
use Rattle.pol_events.specs.Refusals.{value_rule}
use Rattle.pol_events.specs.declared.answer.Rule.TheVariants.{NoVariable}
use Rattle.pol_slots.proofs.Ruling.{third_of_rules}
use Rattle.pol_slots.proofs.slot.Slot.check_value.Goals as goal

pub returns : goal.returns
returns c =
    let found = c.in-Some.ensures
    ∙ ap (λ description. variable_named c.args.name (plain_description description)) c.deref.ensures in
    third_of_rules _ _ _ _ c.in_ok-docked.ensures
    (ap (λ found. when (is_none found) NoVariable) (sym found))
    (c.fits.ensures
    ∙ ap (λ found. done_unless (option_and_then
    (λ variable. option_map value_rule (view_fault variable.kind c.args.value.now)) found)) found)
