use Rattle.std.proofs.Common.{◌∙◌, ◌+◌, arith, subst, sym, take}
use Rattle.pol_events.specs.Events.{plain_history}
use Rattle.pol_record.proofs.Known.{one_more}
use Rattle.pol_audit.specs.Placed.{IsPlaced}
use Rattle.pol_audit.proofs.Found.{goes_on, orderly_at, stops_here}
use Rattle.pol_audit.proofs.judging.judge_each.Goals as goal

pub add-requires : goal.add-requires
add-requires c =
    orderly_at c.args.history.now c.loop-place.place c.index-history-place.result c.requires.orderly
    c.loop-place-test.true c.index-history-place.is

pub returns-in-Some : goal.returns-in-Some
returns-in-Some c =
    stops_here c.args.history.now c.loop-place.place c.index-history-place.result c.in-Some.says c.loop-place-test.true
    c.index-history-place.is
    (sym c.in-Some.is ∙ c.in_ok-says.ensures)
    ∙ c.loop-place.invariant.0

pub loop-place-preserved : goal.loop-place-preserved
loop-place-preserved c = (
  goes_on c.args.history.now c.loop-place.place (c.loop-place.place + 1) c.index-history-place.result (omega arith)
      c.loop-place-test.true
      c.index-history-place.is (sym c.in_default.is ∙ c.in_ok-says.ensures)
      ∙ c.loop-place.invariant.0,
  subst (IsPlaced c.add.new.self)
      (sym (one_more c.args.history.now c.loop-place.place c.index-history-place.result c.loop-place-test.true
      c.index-history-place.is))
      (c.in_ok-add.ensures (plain_history (take c.loop-place.place c.args.history.now)) c.loop-place.invariant.1),
)
