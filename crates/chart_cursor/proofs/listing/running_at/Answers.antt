use Rattle.std.proofs.Common.{ap, ◌∙◌}
use Rattle.std.specs.List.{slice_get}
use Rattle.std.specs.Option.{option_or}
use Rattle.chart_core.specs.Trees.{plain_node}
use Rattle.chart_core.specs.Progress.{marks_of}
use Rattle.chart_cursor.specs.Listing.{running_from}
use Rattle.chart_cursor.specs.OpenNodes.{open_nodes}
use Rattle.chart_cursor.specs.declared.listing.RunningAt.{RunningAt}
use Rattle.chart_cursor.specs.declared.running.RunningStep.{RunningStep}
use Rattle.chart_cursor.specs.declared.sought.Sought.{Sought}
use Rattle.chart_cursor.proofs.Listed.{running_at_found}
use Rattle.chart_cursor.proofs.listing.running_at.Goals as goal

pub returns : goal.returns
returns c =
    ap (λ (running : RunningAt). running.sought.found) c.walk.ensures.looked
    ∙ running_at_found (record { from = c.args.from; sought = c.at.result })
    (open_nodes (plain_node c.args.node.now) c.args.number (marks_of c.args.marks.now))
    ∙ ap (λ (sought : Sought RunningStep). option_or sought.found (slice_get (running_from c.args.from
    (open_nodes (plain_node c.args.node.now) c.args.number (marks_of c.args.marks.now))) sought.left)) c.at.ensures
