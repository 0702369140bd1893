use Rattle.std.proofs.Common.{[], refl, sym, subst, arith, codes}
use Rattle.std.specs.Prelude.{option_map}
use Rattle.serde_json.specs.Data.{array}
use Rattle.mtp_desc.specs.PlainProcedure.{plain_procedure}
use Rattle.desc_json.specs.Form.{procedure_of}
use Rattle.pol_lines.specs.Objects.{IsObject, Stands, with_value}
use Rattle.pol_lines.proofs.Cuts.{object_reads}
use Rattle.pol_lines.proofs.services.read_procedure.Goals as goal

pub returns : goal.returns
returns c =
    let text = c.args.text.now in
    let begun = subst (λ held. Stands 2 text held [] c.in_ok-cut.cut) (sym c.new-members.ensures)
    (c.in_ok-cut.ensures 2) in
    let first = c.read_flats-cut.ensures 2 text [] begun in
    let list = c.in_ok-cut-2.ensures.list 2 (codes "params") (omega arith) refl
    (record { plain = refl; no_key = refl }) in
    let others = with_value (codes "params") (option_map array list.values) [] in
    let last = c.read_flats.ensures 2 text others (list.passes text _ [] first) in
    let is = subst (λ held. IsObject 2 text held others c.in-End.rest.now) (sym c.as_slice.ensures.value)
    (rw c.in-End.is at last) in
    object_reads procedure_of (plain_procedure c.in_ok-procedure.procedure) 2 text c.in-End.rest.now
    c.as_slice.result.now others is (c.in_ok-procedure.ensures list.values list.gives)
