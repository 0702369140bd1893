use Rattle.std.proofs.Common.{◌≡◌, ◌++◌, map, drop}
use Rattle.chart_core.specs.Charts.{plain_chart}
use Rattle.pol_bind.specs.Roles.{names_in}
use Rattle.pol_match.specs.Fits.{row_for}
use Rattle.pol_match.specs.Candidates.{plain_candidates}
use Rattle.pol_match.proofs.find.rows_of.Given as goal

abbrev pub invariant-loop-role : goal.invariant-loop-role
invariant-loop-role l =
    l.rows.items ++ map (row_for (plain_chart l.chart) (plain_candidates l.candidates))
    (names_in (drop l.role-index l.roles))
    ≡ map (row_for (plain_chart l.chart) (plain_candidates l.candidates)) (names_in l.roles)
