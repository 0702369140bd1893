use Rattle.std.proofs.Common.{◌≡◌, List, length}
use Rattle.pol_events.specs.Events.{PlainEvent}
use Rattle.pol_store.specs.Stands.{StandsFor}
use Rattle.pol_keep.proofs.Exported.{IsExported}
use Rattle.pol_keep.proofs.exporting.put_lines.Given as goal

abbrev pub invariant-loop-text : goal.invariant-loop-text
invariant-loop-text g l = record {
  so_far : (events : List PlainEvent) → StandsFor events l.image →
      IsExported (g.K.Sink.held l.fn.sink) (g.K.Sink.held l.sink) l.lines.items l.rest events;
  sound : g.K.Sink.faults l.sink ≡ g.K.Sink.faults l.fn.sink;
}

abbrev pub decreases-loop-text : goal.decreases-loop-text
decreases-loop-text g l = length l.rest
