use Rattle.std.proofs.Common.{◌≡◌, [], drop, map, take}
use Rattle.pol_replay.specs.BatchLines.{WritesUpTo}
use Rattle.pol_events.specs.Events.{plain_entry}
use Rattle.pol_cli.specs.SiteRuns.{AreReadBack, AreRetold, entry_lines}
use Rattle.pol_cli.proofs.jobs.plant.put_each.Given as goal

abbrev pub invariant-loop-entry : goal.invariant-loop-entry
invariant-loop-entry g l = record {
  so_far : WritesUpTo (g.K.Sink.held l.fn.sink) (g.K.Sink.held l.sink) (entry_lines (drop l.entry-index l.entries))
      (entry_lines l.entries);
  read_back : AreReadBack (map plain_entry (take l.entry-index l.entries));
  retold : AreRetold (map plain_entry (take l.entry-index l.entries));
  empty : l.line.items ≡ [];
  sound : g.K.Sink.faults l.sink ≡ g.K.Sink.faults l.fn.sink;
}
