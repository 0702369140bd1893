-- A compacted history is no longer than it was.
use Rattle.std.proofs.Common.{◌≤◌, Bool, true, false, List, [], ◌∷◌, length, reverse, arith}
use Rattle.std.specs.Prelude.{filter}
use Rattle.std.proofs.lemmas.List.{length-reverse}
use Rattle.pol_events.specs.Events.{PlainEntry}
use Rattle.pol_history.specs.Looking.{History}
use Rattle.pol_history.proofs.Filters.{length_filter}
use Rattle.pol_compaction.specs.Lasting.{is_lasting}
use Rattle.pol_compaction.specs.Compaction.{stays_between, kept_before, kept_from}
use Rattle.pol_compaction.specs.Law.{CompactionIsNoLonger}

-- no more entries stay than last
kept_shorter : (whole older : History) (newer : List PlainEntry) → length (kept_from whole older newer) ≤ length newer
kept_shorter whole older [] = omega arith
kept_shorter whole older (entry ∷ newer) =
    go (stays_between whole older newer entry.event) (kept_shorter whole (entry ∷ older) newer)
  where
    go : (stay : Bool) → length (kept_from whole (entry ∷ older) newer) ≤ length newer →
        length (kept_before stay entry (kept_from whole (entry ∷ older) newer)) ≤ length (entry ∷ newer)
    go true rest = omega arith
    go false rest = omega arith

-- and no more last than there are
pub compaction_shorter : CompactionIsNoLonger
compaction_shorter history =
    let kept = kept_shorter history [] (reverse (filter (is_lasting history) history)) in
    let turned = length-reverse (filter (is_lasting history) history) in
    let lasting = length_filter (is_lasting history) history in
    omega arith
