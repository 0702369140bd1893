-- From a place on the fates are right, and so much is known of each module as happens there.
use Rattle.std.proofs.Common.{◌≡◌, drop, length, map}
use Rattle.pol_events.specs.Events.{plain_entry, plain_history}
use Rattle.pol_compaction.specs.Ahead.{AreAhead}
use Rattle.pol_compaction.specs.Fates.{each_fate}
use Rattle.pol_compaction.proofs.choosing.fates.Given as goal

abbrev pub invariant-loop-place : goal.invariant-loop-place
invariant-loop-place l = record {
  fates : drop l.place l.fates.items ≡ each_fate (plain_history l.whole) (map plain_entry (drop l.place l.history));
  ahead : AreAhead (plain_history l.whole) (map plain_entry (drop l.place l.history)) l.outlook.modules.entries;
  all : length l.fates.items ≡ length l.history;
}
