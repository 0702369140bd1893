use Rattle.std.proofs.Common.{◌≡◌, ◌+◌, drop}
use Rattle.chart_core.specs.Reads.{place_of}
use Rattle.chart_core.proofs.reads.place_among.Given as goal

abbrev pub invariant-loop-i : goal.invariant-loop-i
invariant-loop-i l = l.i + place_of l.read (drop l.i l.reads) ≡ place_of l.read l.reads
