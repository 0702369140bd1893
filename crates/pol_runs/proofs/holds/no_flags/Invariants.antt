use Rattle.std.proofs.Common.{◌≡◌, ℕ, length, false}
use Rattle.chart_cursor.specs.Holding.{flag_at}
use Rattle.pol_runs.proofs.holds.no_flags.Given as goal

abbrev pub invariant-loop : goal.invariant-loop
invariant-loop l = record {
  room : length l.flags.items ≡ l.counter;
  clear : (i : ℕ) → flag_at l.flags.items i ≡ false;
}
