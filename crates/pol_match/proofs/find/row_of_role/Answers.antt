use Rattle.std.proofs.Common.{◌∙◌}
use Rattle.chart_core.specs.Charts.{plain_chart}
use Rattle.pol_bind.specs.PlainNeeds.{plain_needs}
use Rattle.pol_match.specs.Candidates.{plain_candidates}
use Rattle.pol_match.proofs.Needed.{row_by_needs}
use Rattle.pol_match.proofs.find.row_of_role.Goals as goal

pub returns : goal.returns
returns c =
    c.row_of.ensures
    ∙ row_by_needs (plain_chart c.args.chart.now) c.args.role (plain_needs c.in_ok-needs.needs)
    c.in_ok-needs.ensures.needs c.in_ok-needs.ensures.covers (plain_candidates c.args.candidates.now)
