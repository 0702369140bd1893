-- The text so far and that of the entries that are left are all.
use Rattle.std.proofs.Common.{◌≡◌, ◌++◌, map}
use Rattle.pol_events.specs.Events.{plain_entry}
use Rattle.pol_overview.specs.Entries.{all_named, text_between}
use Rattle.pol_overview.proofs.entries.put_between.Given as goal

abbrev pub invariant-loop-place : goal.invariant-loop-place
invariant-loop-place l = record {
  told : l.out.items ++ text_between l.first l.place l.end (all_named l.persons (map plain_entry l.entries))
      ≡ l.fn.out.items ++ text_between l.first l.first l.end (all_named l.persons (map plain_entry l.entries));
}
