use Rattle.std.proofs.Common.{◌≡◌, ℕ}
use Rattle.chart_core.specs.Progress.{marks_of}
use Rattle.chart_core.specs.Changes.{changed}
use Rattle.chart_core.specs.declared.progress.Change.TheVariants.{Clear}
use Rattle.chart_core.proofs.marks.make.Given as goal

abbrev pub invariant-loop-i : goal.invariant-loop-i
invariant-loop-i l = (k : ℕ) → marks_of l.marks k ≡ changed (Clear l.above l.i) (marks_of l.fn.marks) k
