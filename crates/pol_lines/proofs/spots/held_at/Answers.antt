use Rattle.std.proofs.Common.{◌≡◌, ◌+◌, ◌-◌, ◌<◌, length, take, ap, sym, ◌∙◌, arith}
use Rattle.std.proofs.lemmas.Slice.Eq.{bytes_eq-Decides}
use Rattle.serde_json.specs.Find.{get}
use Rattle.pol_lines.specs.Keys.{key_text}
use Rattle.pol_lines.specs.Parts.{parts_data}
use Rattle.pol_lines.proofs.Keeping.{key_differs, part_before, part_here}
use Rattle.pol_lines.proofs.spots.held_at.Goals as goal

pub returns-then-eq : goal.returns-then-eq
returns-then-eq c =
    let parts = c.args.parts.now in
    let key = key_text c.args.key in
    let place = c.loop-i.i - 1 in
    let next : c.loop-i.i ≡ place + 1 = omega (arith, c.loop-i-test.true) in
    let within : place < length parts = omega (arith, c.loop-i.auto.i, c.loop-i-test.true) in
    sym (c.loop-i.invariant ∙ ap (λ count. get key (parts_data (take count parts))) next
    ∙ part_here parts place _ key within ((bytes_eq-Decides _ _).0 (sym c.eq.ensures ∙ c.if-eq.true)
    ∙ c.text_of-name.ensures))

pub loop-i-preserved : goal.loop-i-preserved
loop-i-preserved c =
    let parts = c.args.parts.now in
    let key = key_text c.args.key in
    let place = c.loop-i.i - 1 in
    let next : c.loop-i.i ≡ place + 1 = omega (arith, c.loop-i-test.true) in
    let within : place < length parts = omega (arith, c.loop-i.auto.i, c.loop-i-test.true) in
    c.loop-i.invariant ∙ ap (λ count. get key (parts_data (take count parts))) next
    ∙ part_before parts place _ key within (key_differs _ _ key (sym c.eq.ensures ∙ c.if-eq.false)
    c.text_of-name.ensures)
