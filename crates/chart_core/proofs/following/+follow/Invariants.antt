use Rattle.std.proofs.Common.{◌≡◌, ◌+◌, ◌-◌, ◌≤◌, drop, ◌&&◌}
use Rattle.chart_core.specs.Trees.{trees, arms, sizes, arm_sizes}
use Rattle.chart_core.specs.Runs.{with_condition, in_turn, at_once, arm_at}
use Rattle.chart_core.specs.Progress.{marks_of}
use Rattle.chart_core.specs.Changes.{is_done, change_by}
use Rattle.chart_core.proofs.following.+follow.Given as goal

abbrev pub invariant-follow_in_turn-loop-kid : goal.invariant-follow_in_turn-loop-kid
invariant-follow_in_turn-loop-kid l = record {
  room : l.number + sizes (trees (drop l.kid-index l.kids)) ≡ l.first + sizes (trees l.kids);
  done : is_done (in_turn (trees (drop l.kid-index l.kids)) l.number) (marks_of l.marks)
      ≡ is_done (in_turn (trees l.kids) l.first) (marks_of l.marks);
  rest : change_by (in_turn (trees (drop l.kid-index l.kids)) l.number) (marks_of l.marks) (with_condition l.entry)
      ≡ change_by (in_turn (trees l.kids) l.first) (marks_of l.marks) (with_condition l.entry);
}

abbrev pub invariant-follow_at_once-loop-kid : goal.invariant-follow_at_once-loop-kid
invariant-follow_at_once-loop-kid l = record {
  room : l.number + sizes (trees (drop l.kid-index l.kids)) ≡ l.first + sizes (trees l.kids);
  done : (l.done && is_done (at_once (trees (drop l.kid-index l.kids)) l.number) (marks_of l.marks))
      ≡ is_done (at_once (trees l.kids) l.first) (marks_of l.marks);
  rest : change_by (at_once (trees (drop l.kid-index l.kids)) l.number) (marks_of l.marks) (with_condition l.entry)
      ≡ change_by (at_once (trees l.kids) l.first) (marks_of l.marks) (with_condition l.entry);
}

abbrev pub invariant-follow_arm-loop-i : goal.invariant-follow_arm-loop-i
invariant-follow_arm-loop-i l = record {
  room : l.number + arm_sizes (arms (drop l.i l.each)) ≡ l.first + arm_sizes (arms l.each);
  before : l.i ≤ l.arm;
  rest : arm_at (arms (drop l.i l.each)) l.number (l.arm - l.i) ≡ arm_at (arms l.each) l.first l.arm;
}
