use Rattle.std.proofs.Common.{map}
use Rattle.chart_core.specs.Charts.{plain_chart}
use Rattle.chart_core.specs.Roles.{plain_role}
use Rattle.chart_core.specs.Trees.{plain_node}
use Rattle.pol_lines.proofs.Making.{recipe_of_parts}
use Rattle.pol_lines.proofs.recipes.recipe_in.Goals as goal

pub returns-clause-says : goal.returns-clause-says
returns-clause-says c = λ played value is_roles is_root.
    let named = c.in_ok-at.ensures in
    recipe_of_parts c.args.members.now played value c.in_ok-at.at c.in_ok-at.recipe
    (map plain_role c.args.roles.items)
    (plain_node c.args.root) (plain_chart c.in_ok-chart.chart.value) named.kind named.stamp named.name
    named.listed is_roles is_root c.in_ok-chart.ensures.made
