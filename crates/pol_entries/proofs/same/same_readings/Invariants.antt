use Rattle.std.proofs.Common.{◌≡◌, drop}
use Rattle.std.specs.Slice.Iter.{iter_rest}
use Rattle.pol_entries.specs.Same.{same_readings}
use Rattle.pol_entries.proofs.same.same_readings.Given as goal

abbrev pub invariant-loop-reading : goal.invariant-loop-reading
invariant-loop-reading l =
    same_readings (drop l.reading-index l.told) (iter_rest l.rest) ≡ same_readings l.told l.others
