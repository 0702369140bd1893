use Rattle.std.proofs.Common.{◌+◌, slice_range, arith}
use Rattle.pol_io.specs.Cuts.{FeedAt}
use Rattle.pol_io.specs.Window.{waiting}
use Rattle.pol_io.proofs.Ranges.{range_drop, range_front}
use Rattle.pol_io.proofs.Windows.{length_waiting}
use Rattle.pol_io.proofs.Cutting.{cuts_at_feed_known}
use Rattle.pol_io.proofs.seek.cut_line.Goals as goal

pub invariant_of-window-clause-spent : goal.invariant_of-window-clause-spent
invariant_of-window-clause-spent g c ended =
    let window = c.seek.new.window in
    let at : FeedAt (waiting window) c.in-Feed.size = rw c.in-Feed.is at c.in_ok-found.ensures.found in
    let within = rw (length_waiting window) at at.within in
    let spent = window.spent ended in
    absurd (omega (arith, within, spent))

pub returns-in-Feed-clause-cut : goal.returns-in-Feed-clause-cut
returns-in-Feed-clause-cut g c =
    let window = c.seek.new.window in
    let at : FeedAt (waiting window) c.in-Feed.size = rw c.in-Feed.is at c.in_ok-found.ensures.found in
    let within = rw (length_waiting window) at at.within in
    rw (range_drop window.buffer.items window.start window.end (c.in-Feed.size + 1))
    (cuts_at_feed_known window.ended _ _ (waiting window) (slice_range window.buffer.items window.start
    (window.start + c.in-Feed.size)) c.in-Feed.size
    (range_front window.buffer.items window.start window.end c.in-Feed.size (omega (arith, within))) at
    c.in_ok-found.ensures.bytes)
