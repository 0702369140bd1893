-- Counting arms.
use Rattle.std.specs.Prelude.{◌≡◌, suc, List, [], ◌∷◌, length, refl}
use Rattle.std.proofs.Common.{ap}
use Rattle.chart_core.specs.Trees.{arms, arm_count}
use Rattle.chart_core.specs.declared.node.Arm.{Arm}

-- as many arms as there are
pub count_arms : (each : List Arm) → arm_count (arms each) ≡ length each
count_arms [] = refl
count_arms (arm ∷ each) = ap suc (count_arms each)
