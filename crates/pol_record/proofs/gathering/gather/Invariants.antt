-- What is gathered is what the entries so far say.
use Rattle.std.proofs.Common.{take}
use Rattle.pol_events.specs.Events.{plain_history}
use Rattle.pol_record.specs.Gathered.{IsGathered}
use Rattle.pol_record.proofs.gathering.gather.Given as goal

abbrev pub invariant-loop-entry : goal.invariant-loop-entry
invariant-loop-entry l = IsGathered l.gathered (plain_history (take l.entry-index l.history))
