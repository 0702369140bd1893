use Rattle.std.proofs.Common.{ℕ, ◌+◌, List, subst, sym, ap, length}
use Rattle.pol_match.proofs.Lowering.{AreLowered, none_lowered, one_more_lowered}
use Rattle.pol_match.proofs.assignment.least_of.Goals as goal

pub loop-row-init : goal.loop-row-init
loop-row-init c = rw c.new-settled.ensures
    (none_lowered c.args.rows.now c.args.holders.now c.new-places.result.items c.requires.seated
    (ap length c.new-places.ensures.items))

pub loop-row-preserved : goal.loop-row-preserved
loop-row-preserved c =
    subst (λ (places : List ℕ). AreLowered c.args.rows.now c.reseat-place.new.holders c.insert.new.self
    (c.loop-row.row + 1) places) (sym c.in_ok-push.ensures.items)
    (one_more_lowered c.args.rows.now c.loop-row.holders c.reseat-place.new.holders c.loop-row.settled
    c.insert.new.self c.loop-row.row c.reseat-place.result c.loop-row.places.items c.loop-row-test.true
    c.loop-row.invariant c.reseat-place.ensures c.insert.ensures)
