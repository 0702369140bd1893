use Rattle.std.proofs.Common.{◌≡◌, true, false, refl, sym, ◌∙◌, Some, None, Option}
use Rattle.chart_core.specs.Charts.{plain_chart}
use Rattle.chart_core.specs.Valid.{chart_fault}
use Rattle.chart_core.specs.declared.fault.ChartFault.{ChartFault}
use Rattle.chart_core.proofs.Walking.{walk_clear, walk_stopped}
use Rattle.chart_core.proofs.chart.Chart.valid.Goals as goal

-- a chart with a fault isn't one without
faulty : (found : Option ChartFault) (fault : ChartFault) → found ≡ Some fault → found ≡ None → false ≡ true
faulty found fault here none = cc

pub returns-in-Ok-clause-ok : goal.returns-in-Ok-clause-ok
returns-in-Ok-clause-ok c = (
  λ _. walk_clear (plain_chart c.args.self.now) (record { number = 0; steps = 0 }) c.in-Ok.field-0 refl refl
      (sym c.walk.ensures.value ∙ c.in-Ok.is),
  λ _. refl,
)

pub returns-in-Err-clause-ok : goal.returns-in-Err-clause-ok
returns-in-Err-clause-ok c =
    let found = walk_stopped (plain_chart c.args.self.now) (record { number = 0; steps = 0 }) c.in-Err.fault refl refl
    (sym c.walk.ensures.value ∙ c.in-Err.is) in
    (λ h. cc, λ none. faulty (chart_fault (plain_chart c.args.self.now)) c.in-Err.fault found none)

pub returns-in-Err-clause-fault : goal.returns-in-Err-clause-fault
returns-in-Err-clause-fault c =
    walk_stopped (plain_chart c.args.self.now) (record { number = 0; steps = 0 }) c.in-Err.fault refl refl
    (sym c.walk.ensures.value ∙ c.in-Err.is)
