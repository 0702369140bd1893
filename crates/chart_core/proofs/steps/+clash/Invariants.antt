use Rattle.std.proofs.Common.{◌≡◌, ◌||◌, drop, take}
use Rattle.chart_core.specs.Seeking.{sought}
use Rattle.chart_core.specs.Trees.{trees, arms, sizes, arm_sizes}
use Rattle.chart_core.specs.Valid.{some_uses, clashes_in_turn, clashes_at_once, clashes_in_arms}
use Rattle.chart_core.proofs.steps.+clash.Given as goal

abbrev pub invariant-seek_clash_in_turn-loop-kid : goal.invariant-seek_clash_in_turn-loop-kid
invariant-seek_clash_in_turn-loop-kid l =
    sought l.left (sizes (trees (drop l.kid-index l.kids)))
    (clashes_in_turn (trees (drop l.kid-index l.kids)) l.left l.role l.service)
    ≡ sought l.place (sizes (trees l.kids)) (clashes_in_turn (trees l.kids) l.place l.role l.service)

abbrev pub invariant-seek_clash_at_once-loop-i : goal.invariant-seek_clash_at_once-loop-i
invariant-seek_clash_at_once-loop-i l =
    sought l.left (sizes (trees (drop l.i l.kids)))
    (some_uses (trees (take l.i l.kids)) l.role l.service
    || clashes_at_once (trees (drop l.i l.kids)) l.left l.role l.service)
    ≡ sought l.place (sizes (trees l.kids)) (clashes_at_once (trees l.kids) l.place l.role l.service)

abbrev pub invariant-seek_clash_in_arms-loop-arm : goal.invariant-seek_clash_in_arms-loop-arm
invariant-seek_clash_in_arms-loop-arm l =
    sought l.left (arm_sizes (arms (drop l.arm-index l.each)))
    (clashes_in_arms (arms (drop l.arm-index l.each)) l.left l.role l.service)
    ≡ sought l.place (arm_sizes (arms l.each)) (clashes_in_arms (arms l.each) l.place l.role l.service)
