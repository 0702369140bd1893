-- What was written tells the recipes so far, whatever tells the others.
use Rattle.std.proofs.Common.{◌≡◌, drop, map}
use Rattle.std.specs.Prelude.{filter_map}
use Rattle.pol_events.specs.Events.{plain_entry}
use Rattle.pol_match.specs.Candidates.{plain_candidates}
use Rattle.pol_find.specs.Recipes.{made_known}
use Rattle.pol_find.proofs.Written.{ToldSoFar}
use Rattle.pol_find.proofs.telling.put_recipes.Given as goal

abbrev pub invariant-loop-entry : goal.invariant-loop-entry
invariant-loop-entry g l = record {
  so_far : ToldSoFar (plain_candidates l.candidates) (filter_map made_known (map plain_entry l.entries))
      (filter_map made_known (map plain_entry (drop l.entry-index l.entries)))
      (g.K.Sink.held l.fn.sink) (g.K.Sink.held l.sink);
  sound : g.K.Sink.faults l.sink ≡ g.K.Sink.faults l.fn.sink;
}
