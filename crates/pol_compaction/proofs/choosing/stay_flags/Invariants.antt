-- Up to a place the flags are right, and those modules are noted that were read there.
use Rattle.std.proofs.Common.{◌≡◌, ◌++◌, [], drop, map, take}
use Rattle.pol_events.specs.Events.{plain_entry, plain_history}
use Rattle.pol_compaction.specs.Flags.{stay_flags}
use Rattle.pol_compaction.specs.Noted.{AreRead}
use Rattle.pol_compaction.proofs.choosing.stay_flags.Given as goal

abbrev pub invariant-loop-place : goal.invariant-loop-place
invariant-loop-place l = record {
  flags : l.flags.items
      ++ stay_flags (plain_history l.whole) (plain_history (take l.place l.history))
      (map plain_entry (drop l.place l.history))
      ≡ stay_flags (plain_history l.whole) [] (map plain_entry l.history);
  noted : AreRead (plain_history l.whole) l.read.named.entries (plain_history (take l.place l.history));
}
