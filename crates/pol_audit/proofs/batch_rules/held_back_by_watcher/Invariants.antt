-- No watcher so far holds the new module back.
use Rattle.std.proofs.Common.{◌≡◌, drop}
use Rattle.std.specs.Prelude.{map}
use Rattle.mtp_codes.specs.Faults.{first_of}
use Rattle.mtp_desc.specs.PlainDescription.{plain_description}
use Rattle.pol_events.specs.Events.{plain_history}
use Rattle.pol_history.specs.Rules.{uncovered_in}
use Rattle.pol_audit.specs.Starts.{watchers_in}
use Rattle.pol_audit.proofs.batch_rules.held_back_by_watcher.Given as goal

abbrev pub invariant-loop-entry : goal.invariant-loop-entry
invariant-loop-entry l =
    first_of (map (uncovered_in (plain_history l.history) l.tag (plain_description l.description))
    (watchers_in (plain_history l.history) l.tag (drop l.entry-index l.starts)))
    ≡ first_of (map (uncovered_in (plain_history l.history) l.tag (plain_description l.description))
    (watchers_in (plain_history l.history) l.tag l.starts))
