use Rattle.std.proofs.Common.{◌≡◌, ◌<◌, ◌≤◌, sym, subst, map, length, false, arith, Ok}
use Rattle.std.proofs.lemmas.Grind.{common_steps}
use Rattle.std.proofs.lemmas.List.{length-map}
use Rattle.semver.specs.Identifiers.{parts_of}
use Rattle.mtp_codes.specs.Repeats.{repeats_by}
use Rattle.mtp_assembly.specs.Plain.{plain_variable}
use Rattle.mtp_desc.specs.Plain.{same_service, same_variable}
use Rattle.mtp_desc.specs.PlainService.{plain_service}
use Rattle.mtp_desc.specs.declared.limits.TheConstants.{MOST_SERVICES, MOST_VARIABLES}
use Rattle.mtp_desc.specs.Version.{version_of}
use Rattle.pol_lines.proofs.Describing.{description_of_parts}
use Rattle.pol_lines.proofs.descriptions.description_in.Goals as goal

pub returns : goal.returns
returns c = λ served seen served_is seen_is.
    let services = map plain_service c.args.services.items in
    let variables = map plain_variable c.args.variables.items in
    let some : 0 < length services = grind (arith, common_steps, c.if-is_empty.ensures) in
    let few : length services ≤ MOST_SERVICES =
    rw (length-map c.args.services.items plain_service) c.requires.services in
    let few_seen : length variables ≤ MOST_VARIABLES =
    rw (length-map c.args.variables.items plain_variable) c.requires.variables in
    let apart : repeats_by same_service services ≡ false =
    subst (λ held. repeats_by same_service (map plain_service held) ≡ false) c.deref.ensures.value
    (sym c.if-repeats.ensures) in
    let unlike : repeats_by same_variable variables ≡ false =
    subst (λ held. repeats_by same_variable (map plain_variable held) ≡ false) c.deref-else-repeats.ensures.value
    (sym c.if-repeats-2.ensures) in
    description_of_parts c.args.members.now served seen c.in_ok-type_name.type_name c.in_ok-version_text.version_text
    (parts_of c.in_ok-version.version) services variables c.in_ok-type_name.ensures c.in_ok-version_text.ensures
    (subst (λ text. version_of text ≡ Ok (parts_of c.in_ok-version.version)) c.as_str.ensures.text
    c.in_ok-version.ensures)
    (sym c.if-not-are_of_description.ensures) some few few_seen apart unlike served_is seen_is
