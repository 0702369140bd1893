use Rattle.std.proofs.Common.{◌∙◌, ap, filter}
use Rattle.mtp_codes.specs.Names.{same_name}
use Rattle.chart_core.specs.Charts.{plain_chart}
use Rattle.pol_bind.proofs.Needed.{met_where_covered, needs_by_parts}
use Rattle.pol_bind.proofs.needs.needs_of.Goals as goal

pub returns-clause-covers : goal.returns-clause-covers
returns-clause-covers c =
    met_where_covered (plain_chart c.args.chart.now) c.args.role _
    (needs_by_parts (plain_chart c.args.chart.now) c.args.role _ c.role_of.ensures
    (c.in_ok-steps_of.ensures ∙ ap (filter (λ step. same_name step.role c.args.role)) c.requires.steps)
    (c.in_ok-tests_of.ensures ∙ ap (filter (λ test. same_name test.role c.args.role)) c.requires.tests))
