use Rattle.std.proofs.Common.{sym, subst, take, take_all}
use Rattle.pol_events.specs.Events.{plain_history}
use Rattle.pol_record.proofs.Known.{one_more}
use Rattle.pol_audit.specs.Placed.{IsPlaced}
use Rattle.pol_audit.proofs.Found.{orderly_at}
use Rattle.pol_audit.proofs.places.place_all.Goals as goal

pub add-requires : goal.add-requires
add-requires c =
    orderly_at c.args.history.now c.loop-entry.entry-index c.entry-item.result c.requires.orderly c.loop-entry-test.true
    c.entry-item.is

pub loop-entry-preserved : goal.loop-entry-preserved
loop-entry-preserved c =
    subst (IsPlaced c.add.new.self)
    (sym (one_more c.args.history.now c.loop-entry.entry-index c.entry-item.result c.loop-entry-test.true
    c.entry-item.is))
    (c.in_ok-add.ensures (plain_history (take c.loop-entry.entry-index c.args.history.now)) c.loop-entry.invariant)

pub returns : goal.returns
returns c =
    subst (λ entries. IsPlaced c.loop-entry.places (plain_history entries))
    (take_all c.loop-entry.entry-index c.args.history.now c.loop-entry-test.false) c.loop-entry.invariant
