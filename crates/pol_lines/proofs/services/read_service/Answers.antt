use Rattle.std.proofs.Common.{◌<◌, [], length, refl, sym, subst, arith, codes}
use Rattle.std.proofs.lemmas.Grind.{common_steps}
use Rattle.std.specs.Prelude.{map, option_map}
use Rattle.serde_json.specs.Data.{array}
use Rattle.mtp_desc.specs.PlainProcedure.{plain_procedure}
use Rattle.mtp_desc.specs.PlainService.{plain_service}
use Rattle.desc_json.specs.Form.{service_of}
use Rattle.pol_lines.specs.Objects.{IsObject, Stands, with_value}
use Rattle.pol_lines.proofs.Cuts.{object_reads}
use Rattle.pol_lines.proofs.Describing.{service_reads}
use Rattle.pol_lines.proofs.services.read_service.Goals as goal

pub returns-in-End : goal.returns-in-End
returns-in-End c =
    let text = c.args.text.now in
    let begun = subst (λ held. Stands 4 text held [] c.in_ok-cut.cut) (sym c.new-members.ensures)
    (c.in_ok-cut.ensures 4) in
    let first = c.read_flats-cut.ensures 4 text [] begun in
    let is = subst (λ held. IsObject 4 text held [] c.in-End.rest.now) (sym c.as_slice.ensures.value)
    (rw c.in-End.is at first) in
    object_reads service_of (plain_service c.in_ok-service.service) 4 text c.in-End.rest.now
    c.as_slice.result.now [] is (c.in_ok-service.ensures.none_given c.in_ok-only.ensures.only)

pub returns : goal.returns
returns c =
    let text = c.args.text.now in
    let procedures = map plain_procedure c.read_list_at.new.found.items in
    let some : 0 < length procedures = grind (arith, common_steps, c.if-is_empty.ensures) in
    let begun = subst (λ held. Stands 4 text held [] c.in_ok-cut.cut) (sym c.new-members.ensures)
    (c.in_ok-cut.ensures 4) in
    let first = c.read_flats-cut.ensures 4 text [] begun in
    let list = c.in_ok-cut-2.ensures.list 4 (codes "procedures") (omega arith) refl
    (record { plain = refl; no_key = refl }) in
    let others = with_value (codes "procedures") (option_map array list.values) [] in
    let last = c.read_flats.ensures 4 text others (list.passes text _ [] first) in
    let is = subst (λ held. IsObject 4 text held others c.in-End-read_flats.rest.now) (sym c.as_slice-2.ensures.value)
    (rw c.in-End-read_flats.is at last) in
    service_reads text c.in-End-read_flats.rest.now c.as_slice-2.result.now list.values procedures
    (plain_service c.in_ok-service-2.service) is list.gives some c.in_ok-service-2.ensures.given
