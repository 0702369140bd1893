use Rattle.std.proofs.Common.{◌+◌, drop, refl}
use Rattle.chart_core.specs.Formulas.{plain_condition}
use Rattle.chart_core.specs.Trees.{arms, arm_conditions}
use Rattle.chart_core.proofs.Items.{arms_cut}
use Rattle.chart_core.proofs.Growing.{too_many}
use Rattle.chart_core.proofs.reads.reads_of_arms.Goals as goal

pub returns-then-not-gather-clause-none : goal.returns-then-not-gather-clause-none
returns-then-not-gather-clause-none c =
    let rest = drop (c.loop-arm.arm-index + 1) c.args.each.now in
    let cut = arms_cut c.args.each.now c.loop-arm.arm-index c.arm-item.result c.loop-arm-test.true c.arm-item.is in
    let many = too_many (plain_condition c.arm-item.result.when) (arm_conditions (arms rest)) c.loop-arm.reads.items
    (c.if-not-gather.ensures.no refl) in
    rw (← c.loop-arm.invariant.rest, cut) many

pub loop-arm-preserved : goal.loop-arm-preserved
loop-arm-preserved c =
    let cut = arms_cut c.args.each.now c.loop-arm.arm-index c.arm-item.result c.loop-arm-test.true c.arm-item.is in
    let same = c.if-not-gather.ensures.yes refl in
    record { few = c.if-not-gather.ensures.few refl; rest = rw (same, ← c.loop-arm.invariant.rest, cut) refl }
