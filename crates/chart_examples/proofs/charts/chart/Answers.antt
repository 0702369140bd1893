use Rattle.std.specs.Prelude.{map}
use Rattle.std.proofs.lemmas.Bool.{and_from}
use Rattle.chart_core.specs.Form.{is_tree_formed}
use Rattle.chart_core.specs.Trees.{plain_node}
use Rattle.chart_core.specs.Roles.{plain_role, are_roles_formed}
use Rattle.chart_examples.proofs.charts.chart.Goals as goal

pub invariant_of-result : goal.invariant_of-result
invariant_of-result c =
    let root = plain_node c.args.root in
    record {
      form =
          and_from (are_roles_formed (record { roles = map plain_role c.in_ok-roles.roles.items; root = root }))
          (is_tree_formed root)
          (c.in_ok-roles.ensures root) c.requires;
    }
