use Rattle.std.proofs.Common.{◌≡◌, drop, map, take}
use Rattle.pol_events.specs.Events.{plain_entry, plain_history}
use Rattle.pol_audit.specs.Placed.{IsPlaced}
use Rattle.pol_audit.specs.Judging.{judged, wrong_after}
use Rattle.pol_audit.proofs.judging.judge_each.Given as goal

abbrev pub invariant-loop-place : goal.invariant-loop-place
invariant-loop-place l =
    (wrong_after (plain_history (take l.place l.history)) (map plain_entry (drop l.place l.history))
    ≡ judged (map plain_entry l.history))
    × IsPlaced l.places (plain_history (take l.place l.history))
