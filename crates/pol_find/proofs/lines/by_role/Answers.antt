-- The last bind that is left is put in first.
use Rattle.std.proofs.Common.{sym, ap, ◌∙◌}
use Rattle.pol_find.proofs.Sorting.{all_of_them, last_first, with_each}
use Rattle.pol_find.proofs.lines.by_role.Goals as goal

pub loop-bind-init : goal.loop-bind-init
loop-bind-init c = ap (with_each c.args.binds.items) c.new-sorted.ensures.items ∙ all_of_them c.args.binds.items

pub loop-bind-preserved : goal.loop-bind-preserved
loop-bind-preserved c =
    ap (with_each c.pop.new.self.items) c.in_ok-put_bind.ensures
    ∙ sym (last_first c.pop.new.self.items c.in-Some.bind c.loop-bind.sorted.items)
    ∙ ap (λ left. with_each left c.loop-bind.sorted.items) (sym c.in-Some.ensures.items)
    ∙ c.loop-bind.invariant
