-- What the form of a list of nodes says of its first.
use Rattle.std.proofs.lemmas.Bool.{and_parts}
use Rattle.std.specs.Prelude.{IsTrue}
use Rattle.chart_core.specs.Formulas.{Formula}
use Rattle.chart_core.specs.Trees.{Tree, Arms, more_arms}
use Rattle.chart_core.specs.Form.{is_formula_formed, is_tree_formed, are_arms_formed}

-- and so are the arms behind it
pub arms_formed : (when : Formula) (body : Tree) (others : Arms)
    → IsTrue (are_arms_formed (more_arms when body others)) → IsTrue (are_arms_formed others)
arms_formed when body others formed =
    (and_parts (is_formula_formed when) (are_arms_formed others) (and_parts (is_tree_formed body) _ formed).1).1
