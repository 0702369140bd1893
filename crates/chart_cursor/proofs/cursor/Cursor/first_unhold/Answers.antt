use Rattle.std.proofs.Common.{◌≡◌, ◌∙◌, subst, ap}
use Rattle.chart_core.specs.declared.chart.Chart.{Chart}
use Rattle.chart_core.specs.Charts.{plain_chart}
use Rattle.chart_core.specs.Valid.{IsValid}
use Rattle.chart_core.specs.Progress.{marks_of}
use Rattle.chart_cursor.specs.Holding.{flag_at}
use Rattle.chart_cursor.specs.Kept.{Kept}
use Rattle.chart_cursor.proofs.Held.{unhold_active}
use Rattle.chart_core.proofs.Few.{few_marks}
use Rattle.chart_cursor.proofs.cursor.Cursor.first_unhold.Goals as goal

pub first_unhold-requires-clause-short : goal.first_unhold-requires-clause-short
first_unhold-requires-clause-short g c =
    let few = few_marks c.self.inside.chart.value c.self.inside.marks.items c.self.invariant.valid
    c.self.invariant.room in
    rw c.deref-2.ensures.value few

pub returns : goal.returns
returns g c =
    λ word stands.
    let chart = c.args.self.now.chart in
    let same : c.deref.result.now ≡ chart = c.deref.ensures ∙ ap (λ (k : Kept). k.chart) c.self.view_is in
    let marks : c.deref-2.result.now ≡ c.args.self.now.marks = c.deref-2.ensures.value
    ∙ ap (λ (k : Kept). k.marks) c.self.view_is in
    let valid : IsValid (plain_chart chart) = subst (λ (a : Chart). IsValid (plain_chart a))
    (ap (λ (k : Kept). k.chart) c.self.view_is) c.self.invariant.valid in
    let found = rw (same, marks) at c.first_unhold.ensures in
    found ∙ unhold_active (plain_chart chart) (marks_of c.args.self.now.marks) word
    (g.S.Seen.sights c.args.seen.now) (flag_at c.args.held.now) valid stands
