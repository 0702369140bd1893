use Rattle.std.proofs.Common.{◌≡◌, ◌-◌, length, arith, refl, ap, length-append, length-take, length-drop, ◌∙◌, Ok}
use Rattle.std.proofs.lemmas.Result.{err_from_is_err_and}
use Rattle.std.proofs.lemmas.List.{take_at}
use Rattle.pol_io.specs.Window.{waiting}
use Rattle.pol_io.proofs.Known.{Keeps_trans, counts_trans}
use Rattle.pol_io.proofs.Feeds.{FeedAt_scanned, scanned_all, had_to_ask, either_way}
use Rattle.pol_io.proofs.Ranges.{range_drop}
use Rattle.pol_io.proofs.Stopping.{stops_after, passed}
use Rattle.pol_io.proofs.seek.seek.Goals as goal

pub returns-in-Some-find_feed-clause-found : goal.returns-in-Some-find_feed-clause-found
returns-in-Some-find_feed-clause-found g c =
    FeedAt_scanned (waiting c.scan.window) c.scan.scanned c.in-Some-find_feed.i c.scan.invariant.no_feed
    (rw (
      c.deref.ensures.value,
      range_drop c.scan.window.buffer.items c.scan.window.start c.scan.window.end
          c.scan.scanned,
    ) at c.in-Some-find_feed.ensures)

pub returns-then-scanned-gt-LONGEST_LINE-clause-found :
    goal.returns-then-scanned-gt-LONGEST_LINE-clause-found
returns-then-scanned-gt-LONGEST_LINE-clause-found g c = (
  scanned_all _ _ _ _ _ c.deref.ensures.value c.scan.invariant.no_feed c.in_default-find_feed.ensures,
  simp (length-take, length-drop) (omega arith),
)

pub returns-in_err-fill-clause-stops : goal.returns-in_err-fill-clause-stops
returns-in_err-fill-clause-stops g c =
    let no_feed = scanned_all _ _ _ _ _ c.deref.ensures.value c.scan.invariant.no_feed c.in_default-find_feed.ensures in
    let fault = err_from_is_err_and c.from_residual.result c.from_residual.ensures.1 in
    rw (fault.1, fault.2)
    (stops_after _ _ _ _ _ _ _
    (passed c.scan.window.ended _ _ _ c.in_err-fill.ensures.open_end no_feed c.scan.invariant.bytes)
    c.scan.invariant.counted c.in_err-fill.ensures.stops)

pub returns-in_err-fill-clause-unasked : goal.returns-in_err-fill-clause-unasked
returns-in_err-fill-clause-unasked g c needless =
    let no_feed = scanned_all _ _ _ _ _ c.deref.ensures.value c.scan.invariant.no_feed c.in_default-find_feed.ensures in
    absurd (had_to_ask _ _ _ _ c.scan.invariant.ended c.in_err-fill.ensures.open_end
    (c.scan.invariant.unasked needless).1 no_feed needless)

pub returns-then-not-branch-clause-found : goal.returns-then-not-branch-clause-found
returns-then-not-branch-clause-found g c =
    let no_feed = scanned_all _ _ _ _ _ c.deref.ensures.value c.scan.invariant.no_feed c.in_default-find_feed.ensures in
    rw (c.in_ok-fill.ensures.same (ap Ok c.if-not-branch.true)) (no_feed, simp (length-take, length-drop) (omega arith))

pub returns-then-not-branch-clause-unasked : goal.returns-then-not-branch-clause-unasked
returns-then-not-branch-clause-unasked g c needless =
    let no_feed = scanned_all _ _ _ _ _ c.deref.ensures.value c.scan.invariant.no_feed c.in_default-find_feed.ensures in
    let before = c.scan.invariant.unasked needless in
    either_way c.scan.window.ended _
    (λ ended. (
      c.in_ok-fill.ensures.unasked ended ∙ before.0,
      c.in_ok-fill.ensures.same
          (ap Ok c.if-not-branch.true) ∙ before.1,
    ))
    (λ unended. absurd (had_to_ask _ _ _ _ c.scan.invariant.ended unended before.1 no_feed needless))

pub scan-preserved : goal.scan-preserved
scan-preserved g c =
    let no_feed = scanned_all _ _ _ _ _ c.deref.ensures.value c.scan.invariant.no_feed c.in_default-find_feed.ensures in
    let fills = c.in_ok-fill.ensures.fills in
    let more = c.in_ok-fill.ensures.more c.if-not-branch.false in
    let wide : c.scan.window.end - c.scan.window.start ≡ length (waiting c.scan.window) =
    simp (length-take, length-drop) (omega arith) in
    record {
      scanned = rw (wide, fills.waiting, length-append) (omega arith);
      no_feed = rw (
        wide,
        fills.waiting,
        take_at (waiting c.scan.window) fills.more
            (length (waiting c.scan.window)) refl,
      ) no_feed;
      bytes = Keeps_trans _ _ _ c.scan.invariant.bytes c.in_ok-fill.ensures.bytes;
      given = c.in_ok-fill.ensures.given ∙ c.scan.invariant.given;
      ended = c.in_ok-fill.ensures.ended ∙ c.scan.invariant.ended;
      counted = counts_trans _ _ _ _ _ _ c.scan.invariant.counted c.in_ok-fill.ensures.counted;
      unasked = λ needless. absurd (had_to_ask _ _ _ _ c.scan.invariant.ended more.1
          (c.scan.invariant.unasked needless).1 no_feed needless);
      sound = c.in_ok-fill.ensures.cause.done ∙ c.scan.invariant.sound;
    }
