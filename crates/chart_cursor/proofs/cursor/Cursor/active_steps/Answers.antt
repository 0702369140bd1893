use Rattle.std.proofs.Common.{◌≡◌, ◌∙◌, Global, Vec, subst, ap}
use Rattle.std.proofs.lemmas.Result.{IfOk-weaker}
use Rattle.chart_core.specs.declared.chart.Chart.{Chart}
use Rattle.chart_core.specs.Charts.{plain_chart}
use Rattle.chart_core.specs.Valid.{IsValid}
use Rattle.chart_core.specs.Progress.{marks_of}
use Rattle.chart_cursor.specs.Kept.{Kept}
use Rattle.chart_cursor.specs.declared.running.RunningStep.{RunningStep}
use Rattle.chart_cursor.proofs.Listed.{running_active}
use Rattle.chart_core.proofs.Few.{few_marks}
use Rattle.chart_cursor.proofs.cursor.Cursor.active_steps.Goals as goal

pub running_steps-requires-clause-short : goal.running_steps-requires-clause-short
running_steps-requires-clause-short c =
    let few = few_marks c.self.inside.chart.value c.self.inside.marks.items c.self.invariant.valid
    c.self.invariant.room in
    rw c.deref-2.ensures.value few

pub returns : goal.returns
returns c =
    λ word stands.
    let chart = c.args.self.now.chart in
    let same : c.deref.result.now ≡ chart = c.deref.ensures ∙ ap (λ (k : Kept). k.chart) c.self.view_is in
    let marks : c.deref-2.result.now ≡ c.args.self.now.marks = c.deref-2.ensures.value
    ∙ ap (λ (k : Kept). k.marks) c.self.view_is in
    let valid : IsValid (plain_chart chart) = subst (λ (a : Chart). IsValid (plain_chart a))
    (ap (λ (k : Kept). k.chart) c.self.view_is) c.self.invariant.valid in
    let found = rw (same, marks) at c.running_steps.ensures in
    IfOk-weaker c.running_steps.result _ _
    (λ (steps : Vec RunningStep Global) listed. listed
    ∙ running_active (plain_chart chart) (marks_of c.args.self.now.marks) word c.args.from valid stands) found
