-- One node more is listed, until there is none at a place.
use Rattle.std.proofs.Common.{◌∙◌, ◌++◌, ◌∷◌, ◌≤◌, [], length, ap, arith, sym, List}
use Rattle.chart_core.specs.Trees.{plain_node}
use Rattle.chart_core.specs.Progress.{marks_of}
use Rattle.chart_cursor.specs.Listing.{waiting_among, waiting_node}
use Rattle.chart_cursor.specs.OpenNodes.{open_nodes}
use Rattle.chart_cursor.specs.declared.listing.WaitingNode.{WaitingNode}
use Rattle.chart_cursor.proofs.Listed.{listed_all, listed_few, listed_more, listed_open}
use Rattle.chart_cursor.proofs.listing.waiting_nodes.Goals as goal

pub loop-place-preserved : goal.loop-place-preserved
loop-place-preserved g c =
    let all = waiting_among (g.S.Seen.sights c.args.seen.now)
    (open_nodes (plain_node c.args.node.now) c.args.number (marks_of c.args.marks.now)) in
    c.in_ok-push-in-Some.ensures.items
    ∙ ap (λ (items : List WaitingNode). items ++ c.in-Some.waiting ∷ []) c.loop-place.invariant
    ∙ sym (listed_more all c.loop-place.place c.in-Some.waiting (sym c.waiting_at.ensures ∙ c.in-Some.is))

pub returns-in-None : goal.returns-in-None
returns-in-None g c =
    let all = waiting_among (g.S.Seen.sights c.args.seen.now)
    (open_nodes (plain_node c.args.node.now) c.args.number (marks_of c.args.marks.now)) in
    c.loop-place.invariant ∙ listed_all all c.loop-place.place (sym c.waiting_at.ensures ∙ c.in-None.is)

pub returns : goal.returns
returns g c =
    let all = waiting_among (g.S.Seen.sights c.args.seen.now)
    (open_nodes (plain_node c.args.node.now) c.args.number (marks_of c.args.marks.now)) in
    let few = listed_open (waiting_node (g.S.Seen.sights c.args.seen.now)) (plain_node c.args.node.now) c.args.number
    (marks_of c.args.marks.now) in
    let within : length all ≤ c.loop-place.place = omega (arith, few) in
    c.loop-place.invariant ∙ listed_few all c.loop-place.place within
