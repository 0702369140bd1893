use Rattle.std.proofs.Common.{◌≡◌, drop}
use Rattle.pol_replay.specs.BatchLines.{WritesUpTo, gathered_lines}
use Rattle.pol_replay.proofs.closing.put_each.Given as goal

abbrev pub invariant-loop-batch : goal.invariant-loop-batch
invariant-loop-batch g l = record {
  so_far : WritesUpTo (g.K.Sink.held l.fn.sink) (g.K.Sink.held l.sink)
      (gathered_lines l.gathered (drop l.batch-index l.batches)) (gathered_lines l.gathered l.batches);
  sound : g.K.Sink.faults l.sink ≡ g.K.Sink.faults l.fn.sink;
}
