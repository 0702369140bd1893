-- One step more is listed, until there is none at a place.
use Rattle.std.proofs.Common.{◌∙◌, ◌++◌, ◌∷◌, ◌≤◌, [], length, ap, arith, sym, List}
use Rattle.chart_core.specs.Trees.{plain_node}
use Rattle.chart_core.specs.Progress.{marks_of}
use Rattle.chart_cursor.specs.Listing.{running_at_node, running_from}
use Rattle.chart_cursor.specs.OpenNodes.{open_nodes}
use Rattle.chart_cursor.specs.declared.running.RunningStep.{RunningStep}
use Rattle.chart_cursor.proofs.Listed.{listed_all, listed_few, listed_more, listed_open}
use Rattle.chart_cursor.proofs.listing.running_steps.Goals as goal

pub loop-place-preserved : goal.loop-place-preserved
loop-place-preserved c =
    let all = running_from c.args.from
    (open_nodes (plain_node c.args.node.now) c.args.number (marks_of c.args.marks.now)) in
    c.in_ok-push-in-Some.ensures.items
    ∙ ap (λ (items : List RunningStep). items ++ c.in-Some.step ∷ []) c.loop-place.invariant
    ∙ sym (listed_more all c.loop-place.place c.in-Some.step (sym c.running_at.ensures ∙ c.in-Some.is))

pub returns-in-None : goal.returns-in-None
returns-in-None c =
    let all = running_from c.args.from
    (open_nodes (plain_node c.args.node.now) c.args.number (marks_of c.args.marks.now)) in
    c.loop-place.invariant ∙ listed_all all c.loop-place.place (sym c.running_at.ensures ∙ c.in-None.is)

pub returns : goal.returns
returns c =
    let all = running_from c.args.from
    (open_nodes (plain_node c.args.node.now) c.args.number (marks_of c.args.marks.now)) in
    let few = listed_open (running_at_node c.args.from) (plain_node c.args.node.now) c.args.number
    (marks_of c.args.marks.now) in
    let within : length all ≤ c.loop-place.place = omega (arith, few) in
    c.loop-place.invariant ∙ listed_few all c.loop-place.place within
