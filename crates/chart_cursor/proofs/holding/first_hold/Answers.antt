use Rattle.std.proofs.Common.{None, ap, ◌∙◌}
use Rattle.chart_core.specs.Trees.{plain_node}
use Rattle.chart_core.specs.Progress.{marks_of}
use Rattle.chart_cursor.specs.OpenNodes.{open_nodes}
use Rattle.chart_cursor.specs.declared.holding.FirstHold.{FirstHold}
use Rattle.chart_cursor.proofs.Walked.{hold_found}
use Rattle.chart_cursor.proofs.holding.first_hold.Goals as goal

pub returns : goal.returns
returns g c =
    ap (λ (found : FirstHold g.row.S.Denot). found.found) c.walk.ensures.looked
    ∙ hold_found g.S.Seen.sights (record { seen = c.args.seen; from = c.args.from; asked = c.args.asked; found = None })
    (open_nodes (plain_node c.args.node.now) c.args.number (marks_of c.args.marks.now))
