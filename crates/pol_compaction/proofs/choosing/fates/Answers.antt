-- Each turn finds the fate of the entry before, and goes back over it.
use Rattle.std.proofs.Common.{◌≡◌, ◌+◌, ◌-◌, ◌<◌, drop, length, map, ◌∙◌, arith, length-set, rules}
use Rattle.pol_events.specs.Events.{plain_entry, plain_history}
use Rattle.pol_compaction.proofs.Chosen.{ahead_next, ahead_none, fates_next, fates_none}
use Rattle.pol_compaction.proofs.choosing.fates.Goals as goal

pub loop-place-init : goal.loop-place-init
loop-place-init c =
    let whole = plain_history c.args.whole.now in
    let history = c.args.history.now in
    let all : length c.in_ok-fates.fates.items ≡ length history = search rules in
    record {
      fates = fates_none whole history c.in_ok-fates.fates.items all;
      ahead = ahead_none whole history c.new-outlook.result.modules.entries (c.new-outlook.ensures whole);
      all = all;
    }

pub loop-place-preserved : goal.loop-place-preserved
loop-place-preserved c =
    let whole = plain_history c.args.whole.now in
    let history = c.args.history.now in
    let was = c.loop-place in
    let entry = c.index-history-place.result in
    let next : (was.place - 1) + 1 ≡ was.place = omega arith in
    let inside : was.place - 1 < length history = omega arith in
    let newer = map plain_entry (drop was.place history) in
    record {
      fates = fates_next whole history (was.place - 1) was.place next entry inside c.index-history-place.is
          was.fates.items c.in_ok-fates-2.field-0 was.invariant.all
          (c.in_ok-fates-2.ensures.fate newer was.invariant.ahead) was.invariant.fates;
      ahead = ahead_next whole history (was.place - 1) was.place next entry inside c.index-history-place.is
          c.meet.new.self.modules.entries (c.in_ok-fates-2.ensures.met newer was.invariant.ahead);
      all = length-set was.fates.items (was.place - 1) c.in_ok-fates-2.field-0 ∙ was.invariant.all;
    }
