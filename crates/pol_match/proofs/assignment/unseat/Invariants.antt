use Rattle.std.proofs.Common.{◌≡◌, ◌<◌, ◌≤◌, ℕ}
use Rattle.pol_match.specs.Seats.{holder_at}
use Rattle.pol_match.specs.Assignments.{other_than}
use Rattle.pol_match.proofs.assignment.unseat.Given as goal

-- the places below the index are done, and the others as they were
abbrev pub invariant-loop-holder : goal.invariant-loop-holder
invariant-loop-holder l = record {
  done : (place : ℕ) → place < l.holder-index
      → holder_at l.holders place ≡ other_than l.row (holder_at l.fn.holders place);
  rest : (place : ℕ) → l.holder-index ≤ place → holder_at l.holders place ≡ holder_at l.fn.holders place;
}
