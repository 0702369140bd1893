-- No entry so far starts a watcher.
use Rattle.std.proofs.Common.{◌≡◌, drop, Some}
use Rattle.std.specs.Prelude.{map}
use Rattle.mtp_codes.specs.Faults.{first_of}
use Rattle.pol_events.specs.Events.{plain_history}
use Rattle.pol_events.specs.declared.answer.Rule.TheVariants.{Watched}
use Rattle.pol_audit.specs.Starts.{watchers_in}
use Rattle.pol_audit.proofs.batch_rules.first_watcher.Given as goal

abbrev pub invariant-loop-entry : goal.invariant-loop-entry
invariant-loop-entry l =
    first_of (map (λ batch. Some (Watched batch))
    (watchers_in (plain_history l.history) l.tag (drop l.entry-index l.starts)))
    ≡ first_of (map (λ batch. Some (Watched batch)) (watchers_in (plain_history l.history) l.tag l.starts))
