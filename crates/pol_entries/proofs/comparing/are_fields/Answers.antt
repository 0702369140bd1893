use Rattle.std.proofs.Common.{rules as known, ◌≡◌, ◌<◌, ◌∙◌, [], arith, drop, length}
use Rattle.std.proofs.lemmas.List.{length-drop}
use Rattle.pol_entries.proofs.Compared.{fields_left}
use Rattle.pol_entries.proofs.comparing.are_fields.Goals as goal

pub returns-in_default : goal.returns-in_default
returns-in_default c =
    let none : c.loop-field.rest ≡ [] = search known in
    let some : 0 < length (drop c.loop-field.field-index c.args.fields.now) =
    omega (arith, c.loop-field-test.true, length-drop c.loop-field.field-index c.args.fields.now) in
    fields_left (drop c.loop-field.field-index c.args.fields.now) some ∙ (rw none at c.loop-field.invariant)
