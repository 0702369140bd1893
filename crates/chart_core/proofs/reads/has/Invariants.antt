use Rattle.std.proofs.Common.{◌≡◌, drop}
use Rattle.chart_core.specs.Reads.{has_read}
use Rattle.chart_core.proofs.reads.has.Given as goal

abbrev pub invariant-loop-each : goal.invariant-loop-each
invariant-loop-each l = has_read l.read (drop l.each-index l.reads) ≡ has_read l.read l.reads
