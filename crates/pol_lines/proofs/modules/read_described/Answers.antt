use Rattle.std.proofs.Common.{[], refl, sym, subst, arith, codes}
use Rattle.mtp_desc.specs.PlainDescription.{plain_description}
use Rattle.desc_json.specs.Form.{description_of}
use Rattle.pol_events.specs.Events.{plain_event}
use Rattle.pol_lines.specs.Objects.{Stands, with_value}
use Rattle.pol_lines.proofs.Making.{line_with_value}
use Rattle.pol_lines.proofs.modules.read_described.Goals as goal

pub returns : goal.returns
returns c =
    let line = c.args.line.now in
    let made = plain_description c.in_ok-description.description in
    let passed = c.in_ok-cut.ensures 7 (codes "desc") (omega arith) refl (record { plain = refl; no_key = refl }) in
    let gives = rw c.in_ok-description.was at passed.gives in
    let read = c.read_flats.ensures 7 line _ (passed.passes line _ [] (c.requires 7)) in
    let stands = subst (λ held. Stands 7 line held (with_value (codes "desc") passed.value []) c.read_flats.result)
    (sym c.as_slice.ensures.value) read in
    line_with_value description_of made 7 line (codes "desc") c.read_flats.result c.as_slice.result.now passed.value
    (plain_event c.in_ok-event.event) (omega arith) (c.if-not-ends.ensures.text refl) gives stands
    (c.if-not-ends.ensures.ended refl)
    c.in_ok-event.ensures.says
    c.in_ok-event.ensures.faultless
