use Rattle.std.proofs.Common.{◌∙◌, ap, rules, tests}
use Rattle.chart_core.specs.Charts.{plain_chart}
use Rattle.pol_history.specs.Looking.{last_of}
use Rattle.pol_history.specs.Batches.{charted}
use Rattle.pol_audit.specs.Listed.{listed}
use Rattle.pol_audit.proofs.LookingBack.{last_found, listed_back}
use Rattle.pol_audit.proofs.Steps.{found_valid}
use Rattle.pol_audit.proofs.recipes.Recipes.chart.Goals as goal

pub returns-clause-chart : goal.returns-clause-chart
returns-clause-chart c =
    last_found (λ chart. plain_chart chart.now.value) (λ entry. charted c.args.name entry.event) _
    c.find_map.ensures.runs
    (listed_back c.deref.result.now (cc)) (λ item found after called. search (rules, tests))
    ∙ ap (λ entries. last_of (λ entry. charted c.args.name entry.event) (listed entries)) c.deref.ensures.value

pub returns-clause-valid : goal.returns-clause-valid
returns-clause-valid c =
    found_valid (λ chart. plain_chart chart.now.value) c.find_map.result c.args.name
    (listed c.args.self.now.entries.items) c.args.self.now.orderly (returns-clause-chart c)
