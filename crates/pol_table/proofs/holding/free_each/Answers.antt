-- Each turn frees one seat, and the turns reach every seat.
use Rattle.std.proofs.Common.{◌≤◌, length, ◌∙◌, arith}
use Rattle.pol_table.specs.Places.{seat_freed_from}
use Rattle.pol_table.proofs.Steps.{written_next, write_all}
use Rattle.pol_table.proofs.holding.free_each.Goals as goal

pub loop-index-preserved : goal.loop-index-preserved
loop-index-preserved c = rw (c.free_from.ensures) (written_next
    (seat_freed_from _) _ _ _ _ _ c.loop-index.invariant c.pair_mut-seat.ensures.value)

pub returns : goal.returns
returns c =
    let past : length c.args.seats.now.entries ≤ c.loop-index.index =
    omega (arith, c.loop-index-test.false, c.len-index-end.ensures.len) in
    c.loop-index.invariant ∙ write_all (seat_freed_from _) _ _ past
