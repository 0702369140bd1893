use Rattle.std.proofs.Common.{None, ap, ◌∙◌}
use Rattle.chart_core.specs.Trees.{plain_node}
use Rattle.chart_core.specs.Progress.{marks_of}
use Rattle.chart_cursor.specs.OpenNodes.{open_nodes}
use Rattle.chart_cursor.specs.declared.going.Going.{Going}
use Rattle.chart_cursor.specs.declared.next.CursorNext.TheVariants.{Whole}
use Rattle.chart_cursor.proofs.Walked.{broken_found, next_found}
use Rattle.chart_cursor.proofs.going.broken_and_next.Goals as goal

pub returns : goal.returns
returns g c =
    let going : Going g.row.S.Denot = record { seen = c.args.seen; found = None; next = Whole } in
    let sights = g.S.Seen.sights in
    let spots = open_nodes (plain_node c.args.node.now) c.args.number (marks_of c.args.marks.now) in
    record {
      broken =
          ap (λ (going : Going g.row.S.Denot). going.found) c.walk.ensures.looked
          ∙ broken_found sights going spots;
      next =
          ap (λ (going : Going g.row.S.Denot). going.next) c.walk.ensures.looked
          ∙ next_found sights going spots;
    }
