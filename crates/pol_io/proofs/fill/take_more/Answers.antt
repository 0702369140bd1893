use Rattle.std.proofs.Common.{◌≡◌, ◌+◌, ◌≤◌, length, take, slice_range, arith, ap, ◌∙◌}
use Rattle.std.proofs.lemmas.List.{with_items_is}
use Rattle.pol_io.proofs.Ranges.{range_grows, range_same, length_range}
use Rattle.pol_io.proofs.Known.{joined_consumed}
use Rattle.pol_io.proofs.Stopping.{stops_read}
use Rattle.pol_io.proofs.fill.take_more.Goals as goal

pub returns-in-Ok-clause-fills : goal.returns-in-Ok-clause-fills
returns-in-Ok-clause-fills g c =
    let same_length : length c.read_at.new.buffer ≡ c.args.window.now.buffer.len = omega arith in
    let items = with_items_is c.args.window.now.buffer c.read_at.new.buffer same_length in
    let front = c.in-Ok.ensures.front ∙ ap (λ xs. take c.args.window.now.end xs) c.deref_mut.ensures.value in
    let bound = c.in-Ok.ensures.bound in
    let fits : c.args.window.now.end + c.in-Ok.count ≤ length c.read_at.new.buffer = omega (arith, bound) in
    record {
      more = slice_range c.read_at.new.buffer c.args.window.now.end (c.args.window.now.end + c.in-Ok.count);
      waiting = rw items (range_grows c.read_at.new.buffer c.args.window.now.buffer.items c.args.window.now.start
          c.args.window.now.end c.in-Ok.count (omega arith) front);
      taken = rw (length_range c.read_at.new.buffer c.args.window.now.end c.in-Ok.count fits);
    }

pub returns-in-Ok-clause-bytes : goal.returns-in-Ok-clause-bytes
returns-in-Ok-clause-bytes g c =
    let same_length : length c.read_at.new.buffer ≡ c.args.window.now.buffer.len = omega arith in
    let items = with_items_is c.args.window.now.buffer c.read_at.new.buffer same_length in
    let front = c.in-Ok.ensures.front ∙ ap (λ xs. take c.args.window.now.end xs) c.deref_mut.ensures.value in
    rw (
      items,
      range_grows c.read_at.new.buffer c.args.window.now.buffer.items c.args.window.now.start
          c.args.window.now.end c.in-Ok.count (omega arith) front,
    )
    (joined_consumed c.args.window.now.ended _ _ _ _ c.requires.open_end c.in-Ok.ensures.bytes)

pub returns-in-Ok-clause-end : goal.returns-in-Ok-clause-end
returns-in-Ok-clause-end g c ended =
    let none : c.in-Ok.count ≡ 0 = grind arith in
    let same_length : length c.read_at.new.buffer ≡ c.args.window.now.buffer.len = omega arith in
    let items = with_items_is c.args.window.now.buffer c.read_at.new.buffer same_length in
    let front = c.in-Ok.ensures.front ∙ ap (λ xs. take c.args.window.now.end xs) c.deref_mut.ensures.value in
    let end : c.args.window.now.end + c.in-Ok.count ≡ c.args.window.now.end = omega arith in (
      rw (items, end) (range_same c.read_at.new.buffer c.args.window.now.buffer.items c.args.window.now.start
          c.args.window.now.end front),
      c.in-Ok.ensures.end none (omega arith),
    )

pub returns-in-Err-clause-stops : goal.returns-in-Err-clause-stops
returns-in-Err-clause-stops g c = stops_read _ _ c.args.window.now.taken (omega arith) c.in-Err.ensures.unread
