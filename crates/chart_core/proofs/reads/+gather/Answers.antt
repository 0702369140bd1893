use Rattle.std.proofs.Common.{◌+◌, drop, refl}
use Rattle.chart_core.specs.Formulas.{plain_condition, formulas}
use Rattle.chart_core.proofs.Items.{one_more}
use Rattle.chart_core.proofs.Growing.{too_many}
use Rattle.chart_core.proofs.reads.+gather.Goals as goal

pub gather_all-returns-then-not-gather-clause-no : goal.gather_all-returns-then-not-gather-clause-no
gather_all-returns-then-not-gather-clause-no t c =
    λ _.
    let rest = drop (c.loop-each.each-index + 1) c.args.conditions.now in
    let cut = one_more c.args.conditions.now c.loop-each.each-index c.each-item.result c.loop-each-test.true
    c.each-item.is in
    let many = too_many (plain_condition c.each-item.result) (formulas rest) c.loop-each.reads.items
    (c.if-not-gather.ensures.no refl) in
    rw (← c.loop-each.invariant.rest, cut) many
