-- Each turn gathers one entry, and the turns reach the newest.
use Rattle.std.proofs.Common.{sym, subst, take, take_all}
use Rattle.pol_events.specs.Events.{plain_history}
use Rattle.pol_record.specs.Gathered.{IsGathered}
use Rattle.pol_record.proofs.Known.{one_more}
use Rattle.pol_record.proofs.gathering.gather.Goals as goal

pub loop-entry-preserved : goal.loop-entry-preserved
loop-entry-preserved c =
    subst (IsGathered c.gather_entry.new.gathered)
    (sym (one_more c.args.history.now c.loop-entry.entry-index c.entry-item.result c.loop-entry-test.true
    c.entry-item.is))
    (c.in_ok-gather_entry.ensures (plain_history (take c.loop-entry.entry-index c.args.history.now))
    c.loop-entry.invariant)

pub returns : goal.returns
returns c =
    subst (λ entries. IsGathered c.loop-entry.gathered (plain_history entries))
    (take_all c.loop-entry.entry-index c.args.history.now c.loop-entry-test.false) c.loop-entry.invariant
