use Rattle.std.proofs.Common.{rules as known, ◌≡◌, ◌∙◌, length}
use Rattle.pol_entries.proofs.Compared.{no_reading_left}
use Rattle.pol_entries.proofs.comparing.are_readings.Goals as goal

pub returns : goal.returns
returns c =
    let none : length c.loop-reading.left.now ≡ 0 = search known in
    c.is_empty.ensures ∙ no_reading_left c.loop-reading.left.now c.loop-reading.rest.now none ∙ c.loop-reading.invariant
