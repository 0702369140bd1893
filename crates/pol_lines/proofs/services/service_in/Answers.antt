use Rattle.std.proofs.Common.{◌≡◌, ◌<◌, ◌≤◌, [], sym, subst, map, length, false, true}
use Rattle.std.proofs.lemmas.List.{length-map}
use Rattle.mtp_codes.specs.Repeats.{repeats_by}
use Rattle.mtp_desc.specs.Plain.{has_one_default, same_procedure}
use Rattle.mtp_desc.specs.PlainProcedure.{plain_procedure}
use Rattle.mtp_desc.specs.declared.limits.TheConstants.{MOST_PROCEDURES}
use Rattle.desc_json.specs.Form.{service_of}
use Rattle.pol_lines.specs.Objects.{Makes}
use Rattle.pol_lines.proofs.Describing.{service_alone, service_of_parts}
use Rattle.pol_lines.proofs.services.service_in.Goals as goal

pub returns-clause-given : goal.returns-clause-given
returns-clause-given c = λ values gives.
    let items = c.args.procedures.items in
    let procedures = map plain_procedure items in
    let some : 0 < length procedures = rw (length-map items plain_procedure) c.requires.some in
    let few : length procedures ≤ MOST_PROCEDURES = rw (length-map items plain_procedure) c.requires.few in
    let apart : repeats_by same_procedure procedures ≡ false =
    subst (λ held. repeats_by same_procedure (map plain_procedure held) ≡ false) c.deref.ensures.value
    (sym c.if-repeats.ensures) in
    let one : has_one_default procedures ≡ true =
    subst (λ held. has_one_default (map plain_procedure held) ≡ true) c.deref-else-repeats.ensures.value
    (sym c.if-not-has_one_default.ensures) in
    service_of_parts c.args.members.now values c.in_ok-name.name procedures c.in_ok-name.ensures
    (sym c.if-not-are_of_service.ensures) some few apart one gives

pub returns-clause-none_given : goal.returns-clause-none_given
returns-clause-none_given c = λ is.
    subst (λ held. Makes service_of (record { name = c.in_ok-name.name; procedures = held }) c.args.members.now [])
    (sym is) (service_alone c.args.members.now c.in_ok-name.name c.in_ok-name.ensures
    (sym c.if-not-are_of_service.ensures))
