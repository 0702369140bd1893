use Rattle.std.proofs.Common.{ℕ, List, length}
use Rattle.pol_disk.specs.Calls.{deeds_of}
use Rattle.pol_disk.specs.Records.{IsFilled, ranges_of}
use Rattle.pol_disk.proofs.memory.fill_written.Given as goal

abbrev pub invariant-call : goal.invariant-call
invariant-call l =
    (filled : List ℕ) → IsFilled l.fill (ranges_of (deeds_of l.calls.items)) l.bytes filled
    → IsFilled l.fill (ranges_of (deeds_of l.fn.calls.items)) l.fn.bytes filled

abbrev pub decreases-call : goal.decreases-call
decreases-call l = length (deeds_of l.calls.items)
