use Rattle.std.proofs.Common.{map}
use Rattle.pol_bind.specs.PlainNeeds.{plain_needs}
use Rattle.pol_match.specs.Needed.{fits_needs}
use Rattle.pol_match.specs.Candidates.{plain_candidates}
use Rattle.pol_match.proofs.Tables.{IsSetBelow}
use Rattle.pol_match.proofs.find.row_of.Given as goal

-- the places so far are those of candidates that fit
abbrev pub invariant-loop-place : goal.invariant-loop-place
invariant-loop-place l =
    IsSetBelow (map (fits_needs (plain_needs l.needs)) (plain_candidates l.candidates)) l.place l.row
