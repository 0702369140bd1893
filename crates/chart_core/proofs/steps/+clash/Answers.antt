use Rattle.std.proofs.Common.{◌+◌, ◌||◌, drop, take, ap, sym, ◌∙◌}
use Rattle.chart_core.specs.Seeking.{sought}
use Rattle.chart_core.specs.Trees.{plain_node, trees, sizes}
use Rattle.chart_core.specs.Valid.{some_uses, clashes_at_once}
use Rattle.chart_core.proofs.Items.{trees_cut}
use Rattle.chart_core.proofs.Seeking.{sought_first, past_branch, used_so_far}
use Rattle.chart_core.proofs.steps.+clash.Goals as goal

pub seek_clash-returns-then-place-eq0 : goal.seek_clash-returns-then-place-eq0
seek_clash-returns-then-place-eq0 t c =
    rw c.if-place-eq0.true (sym (sought_first (plain_node c.args.node.now) c.args.role c.args.service))

pub seek_clash_at_once-loop-i-preserved : goal.seek_clash_at_once-loop-i-preserved
seek_clash_at_once-loop-i-preserved t c =
    let kids = c.args.kids.now in
    let role = c.args.role in
    let service = c.args.service in
    let kid = c.index-kids-i.result in
    let earlier = some_uses (trees (take c.loop-i.i kids)) role service in
    let cut = trees_cut kids c.loop-i.i kid c.loop-i-test.true c.index-kids-i.is in
    rw (used_so_far kids c.loop-i.i kid role service c.loop-i-test.true c.index-kids-i.is)
    (past_branch (plain_node kid) (trees (drop (c.loop-i.i + 1) kids)) c.loop-i.left c.in-Beyond.behind role service
    earlier (sym c.seek_clash.ensures ∙ c.in-Beyond.is)
    ∙ ap (λ rest. sought c.loop-i.left (sizes rest) (earlier || clashes_at_once rest c.loop-i.left role service))
    (sym cut)
    ∙ c.loop-i.invariant)
