use Rattle.std.proofs.Common.{ℕ, ◌<◌, ◌^◌, arith, refl}
use Rattle.std.specs.Prelude.{slice_index}
use Rattle.pol_match.specs.Seats.{IsSeated, IsStuck}
use Rattle.pol_match.proofs.PlaceSets.{small_where_below}
use Rattle.pol_match.proofs.Seatings.{none_where_stuck, crowded_where_stuck, one_more_seated, stuck_of, seated_of}
use Rattle.pol_match.proofs.assignment.seat_all.Goals as goal

pub returns-then-is_none : goal.returns-then-is_none
returns-then-is_none c =
    let small : (each : ℕ) → slice_index c.args.rows.now each < 2 ^ 64 = λ each.
    small_where_below (slice_index c.args.rows.now each)
    (λ place there. omega (arith, c.requires.inside each place there, c.requires.few)) in
    let stuck = stuck_of
    (IsStuck c.args.rows.now c.loop-row.holders c.seat.new.holders 0 c.seat.new.seen c.loop-row.row)
    (λ place. IsSeated c.args.rows.now c.loop-row.holders c.seat.new.holders 0 c.loop-row.row place)
    c.seat.result (rw c.new-seen.ensures at (c.seat.ensures)) c.if-is_none.ensures in (
      crowded_where_stuck c.args.rows.now c.loop-row.holders c.seat.new.holders c.loop-row.row c.seat.new.seen
          c.loop-row-test.true small c.loop-row.invariant stuck,
      none_where_stuck c.args.rows.now c.loop-row.holders c.seat.new.holders c.loop-row.row c.seat.new.seen
          c.loop-row-test.true c.loop-row.invariant stuck,
      record {
        row = c.loop-row.row;
        low = c.loop-row-test.true;
        holders = c.loop-row.holders;
        few = omega (arith, c.requires.few, c.loop-row.auto.holders);
        inside = λ row place fit. omega (arith, c.requires.inside row place fit, c.loop-row.auto.holders);
        seated = c.loop-row.invariant;
        stuck = record {
          same = refl;
          closed = stuck.closed;
          within = stuck.within;
          forced = stuck.forced;
        };
      },
    )

pub loop-row-preserved : goal.loop-row-preserved
loop-row-preserved c =
    let seated = seated_of
    (IsStuck c.args.rows.now c.loop-row.holders c.seat.new.holders 0 c.seat.new.seen c.loop-row.row)
    (λ place. IsSeated c.args.rows.now c.loop-row.holders c.seat.new.holders 0 c.loop-row.row place)
    c.seat.result (rw c.new-seen.ensures at (c.seat.ensures)) c.if-is_none.ensures in
    one_more_seated c.args.rows.now c.loop-row.holders c.seat.new.holders c.loop-row.row seated.0 c.loop-row.invariant
    seated.1
