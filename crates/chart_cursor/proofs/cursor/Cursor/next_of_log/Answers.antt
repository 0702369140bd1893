use Rattle.std.proofs.Common.{◌≡◌, ◌∙◌, ap}
use Rattle.chart_core.specs.Charts.{plain_chart}
use Rattle.chart_core.proofs.Few.{few_marks}
use Rattle.chart_cursor.specs.Kept.{Kept}
use Rattle.chart_cursor.specs.OpenNodes.{open_nodes, first_among}
use Rattle.chart_cursor.proofs.cursor.Cursor.next_of_log.Goals as goal

pub scan-requires-clause-short : goal.scan-requires-clause-short
scan-requires-clause-short g c =
    let few = few_marks c.self.inside.chart.value c.self.inside.marks.items c.self.invariant.valid
    c.self.invariant.room in
    rw c.deref-2.ensures.value few

pub returns : goal.returns
returns g c =
    λ log after.
    let chart = c.args.self.now.chart in
    let same : c.deref.result.now ≡ chart = c.deref.ensures ∙ ap (λ (k : Kept). k.chart) c.self.view_is in
    let marks : c.deref-2.result.now ≡ c.args.self.now.marks = c.deref-2.ensures.value
    ∙ ap (λ (k : Kept). k.marks) c.self.view_is in
    let found = rw (same, marks) at c.scan.ensures in
    found ∙ ap (λ marks. first_among (g.S.Seen.sights c.args.seen.now) (open_nodes (plain_chart chart).root 0 marks))
    after
