use Rattle.std.proofs.Common.{◌≡◌, [], true, ap, subst, sym, ◌∙◌}
use Rattle.chart_core.specs.Charts.{plain_chart}
use Rattle.pol_events.specs.Events.{recipe}
use Rattle.pol_events.specs.Orderly.{is_orderly}
use Rattle.pol_demo.proofs.Runs.{dosing_is_orderly}
use Rattle.pol_demo.proofs.journal.make_known.Goals as goal

pub tell-requires-clause-orderly : goal.tell-requires-clause-orderly
tell-requires-clause-orderly c =
    subst (λ chart. is_orderly (recipe 0 [] chart) ≡ true)
    (sym (ap plain_chart c.in_ok-chart.ensures.ok ∙ c.in_ok-dosing.ensures)) (dosing_is_orderly 0 [])
