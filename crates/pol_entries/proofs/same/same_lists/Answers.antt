use Rattle.std.proofs.Common.{rules as known, ◌≡◌, ◌<◌, ◌∙◌, [], arith, drop, length}
use Rattle.std.proofs.lemmas.List.{length-drop, nil_from_length}
use Rattle.std.specs.Slice.Iter.{iter_rest}
use Rattle.pol_entries.proofs.Sameness.{fields_left}
use Rattle.pol_entries.proofs.same.same_lists.Goals as goal

pub returns-in_default : goal.returns-in_default
returns-in_default c =
    let ended : length (iter_rest c.loop-field.rest) ≡ 0 = search known in
    let none : iter_rest c.loop-field.rest ≡ [] = nil_from_length (iter_rest c.loop-field.rest) ended in
    let some : 0 < length (drop c.loop-field.field-index c.args.told.now) =
    omega (arith, c.loop-field-test.true, length-drop c.loop-field.field-index c.args.told.now) in
    fields_left (drop c.loop-field.field-index c.args.told.now) some ∙ (rw none at c.loop-field.invariant)
