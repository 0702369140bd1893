-- What is known is what the entries so far say.
use Rattle.std.proofs.Common.{◌≡◌, take}
use Rattle.pol_events.specs.Events.{plain_history}
use Rattle.pol_history.specs.Looking.{past_of_batch}
use Rattle.pol_record.specs.Gathered.{plain_record, record_by}
use Rattle.pol_record.proofs.records.record_of.Given as goal

abbrev pub invariant-loop-entry : goal.invariant-loop-entry
invariant-loop-entry l =
    plain_record l.known ≡ record_by (past_of_batch l.batch (plain_history (take l.entry-index l.history)))
