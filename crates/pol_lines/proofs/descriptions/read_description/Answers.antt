use Rattle.std.proofs.Common.{[], refl, sym, subst, arith, codes}
use Rattle.std.specs.Prelude.{option_map}
use Rattle.serde_json.specs.Data.{array}
use Rattle.mtp_desc.specs.PlainDescription.{plain_description}
use Rattle.desc_json.specs.Form.{description_of}
use Rattle.pol_lines.specs.Objects.{IsObject, Stands, with_value}
use Rattle.pol_lines.proofs.Cuts.{object_reads}
use Rattle.pol_lines.proofs.descriptions.read_description.Goals as goal

pub returns : goal.returns
returns c =
    let text = c.args.text.now in
    let begun = subst (λ held. Stands 6 text held [] c.in_ok-cut.cut) (sym c.new-members.ensures)
    (c.in_ok-cut.ensures 6) in
    let first = c.read_flats-cut.ensures 6 text [] begun in
    let served = c.in_ok-cut-2.ensures.list 6 (codes "services") (omega arith) refl
    (record { plain = refl; no_key = refl }) in
    let some = with_value (codes "services") (option_map array served.values) [] in
    let between = c.read_flats-cut-2.ensures 6 text some (served.passes text _ [] first) in
    let seen = c.in_ok-cut-3.ensures.list 6 (codes "variables") (omega arith) refl
    (record { plain = refl; no_key = refl }) in
    let others = with_value (codes "variables") (option_map array seen.values) some in
    let last = c.read_flats.ensures 6 text others (seen.passes text _ some between) in
    let is = subst (λ held. IsObject 6 text held others c.in-End.rest.now) (sym c.as_slice.ensures.value)
    (rw c.in-End.is at last) in
    object_reads description_of (plain_description c.in_ok-description.description) 6 text c.in-End.rest.now
    c.as_slice.result.now others is (c.in_ok-description.ensures served.values seen.values served.gives seen.gives)
