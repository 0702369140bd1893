-- Each turn adds one flag, and notes what its entry reads.
use Rattle.std.proofs.Common.{[], map, take, subst, sym}
use Rattle.pol_events.specs.Events.{plain_entry, plain_history}
use Rattle.pol_record.proofs.Known.{one_more}
use Rattle.pol_compaction.specs.Flags.{stay_flags}
use Rattle.pol_compaction.specs.Noted.{AreRead}
use Rattle.pol_compaction.specs.declared.ahead.Fate.TheVariants.{Stays}
use Rattle.pol_compaction.proofs.Chosen.{stay_next}
use Rattle.pol_compaction.proofs.choosing.stay_flags.Goals as goal

pub loop-place-preserved : goal.loop-place-preserved
loop-place-preserved c =
    let whole = plain_history c.args.whole.now in
    let history = c.args.history.now in
    let place = c.loop-place.place in
    let entry = c.index-history-place.result in
    record {
      flags = stay_next whole history place entry c.loop-place.read.named.entries c.args.fates.now
          c.loop-place.flags.items c.push.new.self.items c.stays-stays.result Stays
          (stay_flags whole [] (map plain_entry history)) c.loop-place-test.true c.index-history-place.is
          c.loop-place.invariant.noted c.requires.known c.stays-stays.ensures c.in_ok-push.ensures.items
          c.loop-place.invariant.flags;
      noted = subst (AreRead whole c.note_read.new.read.named.entries)
          (sym (one_more history place entry c.loop-place-test.true c.index-history-place.is))
          (c.in_ok-note_read.ensures (plain_history (take place history)) c.loop-place.invariant.noted);
    }
