-- A loop over a list takes one item more.
use Rattle.std.specs.Prelude.{ℕ, ◌≡◌, ◌<◌, ◌+◌, suc, List, ◌∷◌, length, drop, get_or}
use Rattle.std.proofs.Common.{arith, ap, sym, ◌∙◌}
use Rattle.std.proofs.Math.Seq.{drop-cons}
use Rattle.chart_core.specs.Formulas.{plain_condition}
use Rattle.chart_core.specs.Trees.{Tree, PlainArm, more_trees, more_arms, node_step, arm_step, plain_node, plain_arm, trees, arms}
use Rattle.chart_core.specs.declared.node.Arm.{Arm}
use Rattle.chart_core.specs.declared.node.Node.{Node}
use Rattle.chart_core.specs.declared.node.Node.TheFolds.{fold_out-Arm}

-- the items from here on are the one here and those behind it
pub one_more : {A : Type 0} (items : List A) (place : ℕ) (item : A) → place < length items
    → item ≡ get_or items place item
    → drop place items ≡ item ∷ drop (place + 1) items
one_more items place item inside same =
    let next : suc place ≡ place + 1 = omega arith in
    drop-cons items place item inside ∙ ap (λ front. front ∷ drop (suc place) items) (sym same)
    ∙ ap (λ start. item ∷ drop start items) next

-- an arm as plain data, by its parts
pub arm_laid : (arm : Arm) → plain_arm arm ≡ record { when = plain_condition arm.when; body = plain_node arm.body }
arm_laid arm = fold_out-Arm Tree PlainArm node_step arm_step arm

-- the arms from here on, as plain data
pub arms_cut :
    (each : List Arm) (place : ℕ) (arm : Arm) → place < length each → arm ≡ get_or each place arm
    → arms (drop place each) ≡ more_arms (plain_condition arm.when) (plain_node arm.body) (arms (drop (place + 1) each))
arms_cut each place arm inside same =
    ap arms (one_more each place arm inside same) ∙ ap (λ plan. more_arms plan.when plan.body
    (arms (drop (place + 1) each))) (arm_laid arm)

-- the nodes from here on, as plain data
pub trees_cut :
    (kids : List Node) (place : ℕ) (kid : Node) → place < length kids → kid ≡ get_or kids place kid
    → trees (drop place kids) ≡ more_trees (plain_node kid) (trees (drop (place + 1) kids))
trees_cut kids place kid inside same = ap trees (one_more kids place kid inside same)
