use Rattle.std.proofs.Common.{ap, ◌∙◌}
use Rattle.std.specs.List.{slice_get}
use Rattle.std.specs.Option.{option_or}
use Rattle.chart_core.specs.Trees.{plain_node}
use Rattle.chart_core.specs.Progress.{marks_of}
use Rattle.chart_cursor.specs.Listing.{waiting_among}
use Rattle.chart_cursor.specs.OpenNodes.{open_nodes}
use Rattle.chart_cursor.specs.declared.listing.WaitingAt.{WaitingAt}
use Rattle.chart_cursor.specs.declared.listing.WaitingNode.{WaitingNode}
use Rattle.chart_cursor.specs.declared.sought.Sought.{Sought}
use Rattle.chart_cursor.proofs.Listed.{waiting_at_found}
use Rattle.chart_cursor.proofs.listing.waiting_at.Goals as goal

pub returns : goal.returns
returns g c =
    ap (λ (waiting : WaitingAt g.row.S.Denot). waiting.sought.found) c.walk.ensures.looked
    ∙ waiting_at_found g.S.Seen.sights (record { seen = c.args.seen; sought = c.at.result })
    (open_nodes (plain_node c.args.node.now) c.args.number (marks_of c.args.marks.now))
    ∙ ap (λ (sought : Sought WaitingNode). option_or sought.found (slice_get (waiting_among
    (g.S.Seen.sights c.args.seen.now)
    (open_nodes (plain_node c.args.node.now) c.args.number (marks_of c.args.marks.now))) sought.left)) c.at.ensures
