use Rattle.std.proofs.Common.{◌≡◌, ◌+◌, ◌*◌}
use Rattle.pol_match.specs.Seats.{AreForced, IsClosed}
use Rattle.pol_match.proofs.Counting.{unseen}
use Rattle.pol_match.proofs.seats.+seat.Given as goal

abbrev pub decreases-seat : goal.decreases-seat
decreases-seat l = 2 * unseen l.seen.now

abbrev pub decreases-vacate : goal.decreases-vacate
decreases-vacate l = 2 * unseen l.seen.now + 1

-- no one has moved, and what was seen since is closed, and forced
abbrev pub invariant-seat-loop-place : goal.invariant-seat-loop-place
invariant-seat-loop-place l = record {
  same : l.holders ≡ l.fn.holders;
  closed : IsClosed l.rows l.fn.holders l.fn.seen l.seen;
  forced : AreForced l.rows l.fn.holders l.fn.seen l.row l.seen;
}

abbrev pub decreases-seat-loop-place : goal.decreases-seat-loop-place
decreases-seat-loop-place l = unseen l.seen
