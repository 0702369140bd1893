-- The settings of a step of a started batch.
use Rattle.std.proofs.Common.{◌∙◌, sym, ap, option_map}
use Rattle.chart_core.specs.Finding.{first_passing}
use Rattle.chart_core.specs.Trees.{plain_node}
use Rattle.chart_core.specs.declared.chart.Chart.{Chart}
use Rattle.chart_core.proofs.Passing.{passing_part}
use Rattle.pol_core.specs.Calls.{is_named}
use Rattle.pol_core.proofs.Looked.{run_settings}
use Rattle.pol_core.proofs.batches.settings.Goals as goal

pub returns : goal.returns
returns c =
    λ history batches.
    c.settings_in.ensures
    ∙ ap (λ (chart : Chart). option_map (λ step. step.settings)
    (first_passing (is_named c.args.step) (plain_node chart.root))) (c.deref.ensures ∙ c.chart.ensures.chart)
    ∙ passing_part (λ step. step.settings) (is_named c.args.step) (plain_node c.in_ok-run.run'.now.chart.root) 0
    ∙ run_settings history c.args.batch c.args.step c.in_ok-run.run'.now c.args.runs.now.entries batches
    (sym c.in_ok-run.ensures.value)
