use Rattle.std.proofs.Common.{◌≡◌, ◌++◌, drop, map}
use Rattle.pol_events.specs.Events.{plain_entry}
use Rattle.pol_replay.specs.BatchLines.{WritesUpTo}
use Rattle.pol_journal.specs.Wanted.{flagged_text}
use Rattle.pol_journal.proofs.writing.put_flagged.Given as goal

abbrev pub invariant-loop-place : goal.invariant-loop-place
invariant-loop-place g l = record {
  so_far : WritesUpTo (g.K.Sink.held l.fn.sink) (g.K.Sink.held l.sink)
      (l.lines.items ++ flagged_text (drop l.place l.flags) (map plain_entry (drop l.place l.history)))
      (flagged_text l.flags (map plain_entry l.history));
  sound : g.K.Sink.faults l.sink ≡ g.K.Sink.faults l.fn.sink;
}
