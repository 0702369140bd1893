use Rattle.std.proofs.Common.{◌+◌, slice_range, arith, refl, ◌∙◌}
use Rattle.std.proofs.lemmas.Result.{err_from_is_err_and}
use Rattle.pol_io.specs.Window.{waiting}
use Rattle.pol_io.specs.declared.limits.TheConstants.{LONGEST_LINE}
use Rattle.pol_io.proofs.Known.{counts_trans}
use Rattle.pol_io.proofs.Ranges.{range_drop, range_none}
use Rattle.pol_io.proofs.Cutting.{nothing_waited, long_at_feed, long_goes_on}
use Rattle.pol_io.proofs.Stopping.{stops_after, passed_long}
use Rattle.pol_io.proofs.seek.skip.Goals as goal

pub returns-in_err-fill-clause-stops : goal.returns-in_err-fill-clause-stops
returns-in_err-fill-clause-stops g c =
    let fault = err_from_is_err_and c.from_residual.result c.from_residual.ensures.1 in
    rw (fault.1, fault.2)
    (stops_after _ _ _ _ _ _ _ (passed_long LONGEST_LINE _ _ c.pass.invariant.long) c.pass.invariant.counted
    c.in_err-fill.ensures.stops)

pub returns-in-Some-clause-cut : goal.returns-in-Some-clause-cut
returns-in-Some-clause-cut g c =
    let items = c.pass.window.buffer.items in
    let unended = c.pass.invariant.open_end.0 in
    let kept = nothing_waited c.pass.window.ended c.fill.new.window.ended
    (slice_range items c.pass.window.end c.pass.window.end)
    (waiting c.fill.new.window) _ _ unended c.in_ok-fill.ensures.ended
    (range_none items _ _ refl) c.in_ok-fill.ensures.bytes in
    rw (range_drop c.fill.new.window.buffer.items c.fill.new.window.start c.fill.new.window.end (c.in-Some.i + 1))
    (long_at_feed LONGEST_LINE c.fill.new.window.ended _ _ _ (waiting c.fill.new.window) c.in-Some.i
    (c.in_ok-fill.ensures.ended ∙ unended)
    (rw c.deref.ensures.value at c.in-Some.ensures) c.pass.invariant.long kept)

pub pass-preserved : goal.pass-preserved
pass-preserved g c =
    let items = c.pass.window.buffer.items in
    let unended = c.pass.invariant.open_end.0 in
    let kept = nothing_waited c.pass.window.ended c.fill.new.window.ended
    (slice_range items c.pass.window.end c.pass.window.end)
    (waiting c.fill.new.window) _ _ unended c.in_ok-fill.ensures.ended
    (range_none items _ _ refl) c.in_ok-fill.ensures.bytes in
    let no_feed = rw c.deref.ensures.value at c.in_default.ensures in
    record {
      long = long_goes_on LONGEST_LINE _ _ _ (waiting c.fill.new.window) no_feed c.pass.invariant.long kept;
      given = let more = (c.in_ok-fill.ensures.more c.if-not-branch.false).0 in omega (arith, more);
      open_end = (c.in_ok-fill.ensures.ended ∙ unended, c.pass.invariant.open_end.1);
      counted = counts_trans _ _ _ _ _ _ c.pass.invariant.counted c.in_ok-fill.ensures.counted;
      sound = c.in_ok-fill.ensures.cause.done ∙ c.pass.invariant.sound;
    }
