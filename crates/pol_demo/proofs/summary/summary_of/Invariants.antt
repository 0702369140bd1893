use Rattle.std.proofs.Common.{◌≡◌, ◌≤◌, take}
use Rattle.std.specs.List.{count_by}
use Rattle.pol_demo.specs.Summary.{is_completed, is_refused}
use Rattle.pol_demo.proofs.summary.summary_of.Given as goal

abbrev pub invariant-loop-entry : goal.invariant-loop-entry
invariant-loop-entry l = record {
  closed : l.closed ≡ count_by (λ entry. is_completed entry.answer) (take l.entry-index l.history);
  refused : l.refused ≡ count_by (λ entry. is_refused entry.answer) (take l.entry-index l.history);
  few_closed : l.closed ≤ l.entry-index;
  few_refused : l.refused ≤ l.entry-index;
}
