use Rattle.std.proofs.Common.{◌≡◌, ◌≤◌, sym, subst, map, length, false}
use Rattle.std.proofs.lemmas.List.{length-map}
use Rattle.mtp_codes.specs.Repeats.{repeats_by}
use Rattle.mtp_assembly.specs.Plain.{plain_param}
use Rattle.mtp_desc.specs.Plain.{same_param}
use Rattle.mtp_desc.specs.declared.limits.TheConstants.{MOST_PARAMS}
use Rattle.pol_lines.proofs.Describing.{procedure_of_parts}
use Rattle.pol_lines.proofs.services.procedure_in.Goals as goal

pub returns : goal.returns
returns c = λ values gives.
    let params = map plain_param c.args.params.items in
    let few : length params ≤ MOST_PARAMS = rw (length-map c.args.params.items plain_param) c.requires in
    let apart : repeats_by same_param params ≡ false =
    subst (λ held. repeats_by same_param (map plain_param held) ≡ false)
    c.deref.ensures.value (sym c.if-repeats.ensures) in
    procedure_of_parts c.args.members.now values c.in_ok-number.field-0 c.in_ok-is_default.is_default
    c.in_ok-self_completing.self_completing params c.in_ok-number.ensures.value c.in_ok-is_default.ensures
    c.in_ok-self_completing.ensures (sym c.if-not-are_of_procedure.ensures) few apart gives
