use Rattle.std.proofs.Common.{rules as known, ◌≡◌, ◌<◌, ◌∙◌, [], arith, drop, length}
use Rattle.std.proofs.lemmas.List.{length-drop, nil_from_length}
use Rattle.std.specs.Slice.Iter.{iter_rest}
use Rattle.pol_entries.proofs.Sameness.{readings_left}
use Rattle.pol_entries.proofs.same.same_readings.Goals as goal

pub returns-in_default : goal.returns-in_default
returns-in_default c =
    let ended : length (iter_rest c.loop-reading.rest) ≡ 0 = search known in
    let none : iter_rest c.loop-reading.rest ≡ [] = nil_from_length (iter_rest c.loop-reading.rest) ended in
    let some : 0 < length (drop c.loop-reading.reading-index c.args.told.now) =
    omega (arith, c.loop-reading-test.true, length-drop c.loop-reading.reading-index c.args.told.now) in
    readings_left (drop c.loop-reading.reading-index c.args.told.now) some ∙ (rw none at c.loop-reading.invariant)
