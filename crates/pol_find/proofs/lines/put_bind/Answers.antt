-- The bind stands before the first whose role is greater.
use Rattle.std.proofs.Common.{◌++◌, ◌<◌, arith, length, sym, ap, take, ◌∙◌}
use Rattle.std.specs.Cmp.Lexicographic.{slice_cmp}
use Rattle.std.specs.Ordering.{nat_cmp}
use Rattle.pol_events.specs.ByRole.{with_bind}
use Rattle.pol_events.specs.declared.event.Bind.{Bind}
use Rattle.pol_find.proofs.Sorting.{stands_here}
use Rattle.pol_find.proofs.lines.put_bind.Goals as goal

pub returns-in-Less : goal.returns-in-Less
returns-in-Less c =
    let binds = c.loop-place.sorted.items in
    let place = c.loop-place.place in
    let low : place < length binds = omega (arith, ap length c.loop-place.invariant.same) in
    let before = ap (λ (other : Bind). slice_cmp nat_cmp c.args.bind.role other.role) (sym c.index.ensures)
    ∙ sym c.in-Less.ensures in
    c.in_ok-insert-in-Less.ensures.items
    ∙ ap (λ later. take place binds ++ later)
    (sym (stands_here c.args.bind binds place c.index.result.now low before))
    ∙ sym c.loop-place.invariant.behind
    ∙ ap (with_bind c.args.bind) c.loop-place.invariant.same
