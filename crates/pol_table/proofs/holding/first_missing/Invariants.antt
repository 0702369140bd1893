-- The answer is that of the tags that are left.
use Rattle.std.proofs.Common.{◌≡◌, drop, map}
use Rattle.mtp_codes.specs.Faults.{first_of}
use Rattle.pol_table.specs.Places.{seat_missing_at}
use Rattle.pol_table.proofs.holding.first_missing.Given as goal

abbrev pub invariant-loop-tag : goal.invariant-loop-tag
invariant-loop-tag l = first_of (map (seat_missing_at l.seats.entries) l.tags)
    ≡ first_of (map (seat_missing_at l.seats.entries) (drop l.tag-index l.tags))
