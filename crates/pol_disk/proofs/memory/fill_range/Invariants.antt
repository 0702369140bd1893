use Rattle.std.proofs.Common.{[], ◌∷◌}
use Rattle.pol_disk.proofs.Fills.{IsFilledUpTo}
use Rattle.pol_disk.proofs.memory.fill_range.Given as goal

abbrev pub invariant-loop-place : goal.invariant-loop-place
invariant-loop-place l =
    IsFilledUpTo l.fill (record { at = l.at; size = l.size } ∷ []) l.place l.fn.bytes l.bytes
