use Rattle.std.proofs.lemmas.List.{take_all}
use Rattle.chart_json.proofs.Listed.{conditions_written}
use Rattle.chart_json.proofs.written_conditions.+written.Goals as goal

pub write_each-returns-clause-value : goal.write_each-returns-clause-value
write_each-returns-clause-value t c =
    conditions_written c.loop-each.list c.args.conditions.now
    (rw (take_all c.loop-each.each-index c.args.conditions.now c.loop-each-test.false) at c.loop-each.invariant.value)
