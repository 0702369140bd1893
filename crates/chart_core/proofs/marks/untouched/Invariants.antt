use Rattle.std.proofs.Common.{◌≡◌, ℕ, length}
use Rattle.chart_core.specs.declared.progress.Progress.TheVariants.{Untouched}
use Rattle.chart_core.specs.Progress.{marks_of}
use Rattle.chart_core.proofs.marks.untouched.Given as goal

abbrev pub invariant-loop : goal.invariant-loop
invariant-loop l = record {
  room : length l.marks.items ≡ l.counter;
  fresh : (i : ℕ) → marks_of l.marks.items i ≡ Untouched;
}
