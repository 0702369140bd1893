use Rattle.std.proofs.Common.{ap, sym, ◌∙◌}
use Rattle.chart_core.specs.Trees.{plain_node}
use Rattle.chart_core.specs.Progress.{marks_of}
use Rattle.chart_cursor.specs.OpenNodes.{open_nodes}
use Rattle.chart_cursor.specs.declared.next.CursorNext.TheVariants.{Whole}
use Rattle.chart_cursor.specs.declared.holding.FirstUnhold.{FirstUnhold}
use Rattle.chart_cursor.proofs.Walked.{none_held, unhold_found}
use Rattle.chart_cursor.proofs.holding.first_unhold.Goals as goal

pub returns : goal.returns
returns g c =
    ap (λ (found : FirstUnhold g.row.S.Denot). found.next) c.walk.ensures.looked
    ∙ unhold_found g.S.Seen.sights (record { seen = c.args.seen; held = c.args.held; next = Whole })
    (open_nodes (plain_node c.args.node.now) c.args.number (marks_of c.args.marks.now))

pub returns-then-not-has_flag : goal.returns-then-not-has_flag
returns-then-not-has_flag g c =
    sym (none_held (g.S.Seen.sights c.args.seen.now) c.args.held.now
    (open_nodes (plain_node c.args.node.now) c.args.number (marks_of c.args.marks.now))
    (sym c.if-not-has_flag.ensures))
