use Rattle.std.proofs.Common.{◌<◌, slice_range, length-take, length-drop, arith, refl}
use Rattle.pol_io.specs.Known.{Between, joined}
use Rattle.pol_io.specs.Cuts.{Cuts}
use Rattle.pol_io.specs.Window.{waiting, given}
use Rattle.pol_io.specs.declared.limits.TheConstants.{LONGEST_LINE}
use Rattle.pol_io.proofs.FirstLines.{first_line_known, long_line_known}
use Rattle.pol_io.proofs.Windows.{given_is, waiting_ended}
use Rattle.pol_io.proofs.lines.Lines.next_line.Goals as goal

pub returns-in-Ok-Text : goal.returns-in-Ok-Text
returns-in-Ok-Text g c =
    let old = c.self.inside.window in
    let new = c.cut_line.new.window in
    let from = c.in-Ok-Text.from in
    let to = c.in-Ok-Text.to in
    let cut : Between (Cuts new.ended (slice_range new.buffer.items from to))
    (joined old.ended (waiting old) (g.S.Source.left c.args.source.now))
    (joined new.ended (waiting new) (g.S.Source.left c.cut_line.new.source)) =
    rw c.in-Ok-Text.field-0-is at c.in-Ok-Text.ensures.cut in
    let lent : Between (Cuts new.ended (slice_range c.deref.result.now from to))
    (joined old.ended (waiting old) (g.S.Source.left c.args.source.now))
    (joined new.ended (waiting new) (g.S.Source.left c.cut_line.new.source)) =
    rw c.deref.ensures.value cut in
    let fits = rw c.in-Ok-Text.field-0-is at c.in-Ok-Text.ensures.fits in
    let more : given old < given new = rw c.in-Ok-Text.field-0-is at c.in-Ok-Text.ensures.given in (
      (
        refl,
        λ _. tt,
        rw (← c.self.view_is, c.in-Ok-Text.field-0-is) (record {
          answers = first_line_known new.ended (slice_range c.deref.result.now from to) _ _ (waiting new)
              (waiting_ended new) lent;
          in_limit = simp (length-take, length-drop) (omega (arith, fits.2));
          gives = rw (given_is old, given_is new) more;
          counted = c.in-Ok-Text.ensures.counted;
          limit = omega arith;
          spent = waiting_ended new;
          at_end = c.in-Ok-Text.ensures.at_end;
          sound = rw (← c.self.view_is) at c.requires;
        }),
      ),
      record {
        line = tt;
        fault = tt;
        open_end = tt;
        unasked = rw (← c.self.view_is) c.in-Ok-Text.ensures.unasked;
        cause = record {
          later = c.in-Ok-Text.ensures.cause.later;
          failed = tt;
          done =
              c.in-Ok-Text.ensures.cause.done;
          other = tt;
        };
      },
    )

pub returns-in-Ok-TooLong : goal.returns-in-Ok-TooLong
returns-in-Ok-TooLong g c =
    let old = c.self.inside.window in
    let new = c.cut_line.new.window in
    let cut = rw c.in-Ok-TooLong.field-0-is at c.in-Ok-TooLong.ensures.cut in
    let more : given old < given new = rw c.in-Ok-TooLong.field-0-is at c.in-Ok-TooLong.ensures.given in (
      (
        refl,
        λ _. tt,
        rw (← c.self.view_is) (record {
          answers = long_line_known LONGEST_LINE new.ended _ _ (waiting new) (waiting_ended new) cut;
          in_limit = tt;
          gives = rw (given_is old, given_is new) more;
          counted = c.in-Ok-TooLong.ensures.counted;
          limit = omega arith;
          spent = waiting_ended new;
          at_end = c.in-Ok-TooLong.ensures.at_end;
          sound = rw (← c.self.view_is) at c.requires;
        }),
      ),
      record {
        line = tt;
        fault = tt;
        open_end = tt;
        unasked = rw (← c.self.view_is) c.in-Ok-TooLong.ensures.unasked;
        cause = record {
          later = c.in-Ok-TooLong.ensures.cause.later;
          failed = tt;
          done =
              c.in-Ok-TooLong.ensures.cause.done;
          other = tt;
        };
      },
    )
