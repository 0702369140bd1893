use Rattle.std.proofs.Common.{◌≡◌, ◌∙◌, sym, subst, ap, List}
use Rattle.std.specs.Prelude.{option_map}
use Rattle.chart_core.specs.Active.{active_steps}
use Rattle.chart_core.specs.Charts.{plain_chart}
use Rattle.chart_core.specs.Trees.{PlainStep}
use Rattle.pol_events.specs.Bound.{ArePaired, bound_role}
use Rattle.pol_events.specs.declared.event.Bind.{Bind}
use Rattle.pol_runs.specs.Runs.{PlainRun}
use Rattle.pol_runs.proofs.Nexts.{role_steps, no_steps}
use Rattle.pol_runs.proofs.run.Run.active_on.Goals as goal

pub returns-in-Some : goal.returns-in-Some
returns-in-Some c =
    let run = c.args.self.now in
    let same : c.deref.result.now ≡ run.binds =
    c.deref.ensures.value ∙ ap (λ (run : PlainRun). run.binds) c.self.view_is in
    let paired : ArePaired run.binds =
    subst (λ (run : PlainRun). ArePaired run.binds) c.self.view_is c.self.invariant.paired in
    λ log follows.
    c.active_of.ensures log follows
    ∙ role_steps run.binds c.args.tag c.in-Some.role paired
    (ap (λ (binds : List Bind). bound_role binds c.args.tag) (sym same) ∙ sym c.bound_role.ensures ∙ c.in-Some.is)
    (active_steps (plain_chart run.chart) log)

pub returns-in-None : goal.returns-in-None
returns-in-None c =
    let run = c.args.self.now in
    let same : c.deref.result.now ≡ run.binds =
    c.deref.ensures.value ∙ ap (λ (run : PlainRun). run.binds) c.self.view_is in
    λ log follows.
    sym (ap (option_map (λ (step : PlainStep). step.name))
    (no_steps run.binds c.args.tag
    (ap (λ (binds : List Bind). bound_role binds c.args.tag) (sym same) ∙ sym c.bound_role.ensures ∙ c.in-None.is)
    (active_steps (plain_chart run.chart) log)))
