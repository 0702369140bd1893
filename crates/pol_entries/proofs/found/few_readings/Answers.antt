use Rattle.std.proofs.Common.{◌≡◌, ◌≤◌, [], arith, drop, length}
use Rattle.std.proofs.lemmas.List.{drop_all}
use Rattle.chart_core.specs.declared.limits.TheConstants.{MOST_READS}
use Rattle.pol_entries.proofs.Compared.{few_read}
use Rattle.pol_entries.proofs.found.few_readings.Goals as goal

pub returns : goal.returns
returns c =
    let none : drop c.loop-value.value-index c.args.values.now ≡ [] =
    drop_all c.loop-value.value-index c.args.values.now (omega (arith, c.loop-value-test.false)) in
    let few : length c.args.values.now ≤ MOST_READS = omega (arith, c.if-values-gt-MOST_READS.false) in
    few_read c.args.values.now (drop c.loop-value.value-index c.args.values.now) c.loop-value.readings none few
    c.loop-value.invariant.read
