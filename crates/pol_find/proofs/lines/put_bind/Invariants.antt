-- The bind stands behind the binds so far.
use Rattle.std.proofs.Common.{◌≡◌, ◌++◌, drop, take}
use Rattle.pol_events.specs.ByRole.{with_bind}
use Rattle.pol_find.proofs.lines.put_bind.Given as goal

abbrev pub invariant-loop-place : goal.invariant-loop-place
invariant-loop-place l = record {
  same : l.sorted.items ≡ l.fn.sorted.items;
  behind : with_bind l.bind l.sorted.items
      ≡ take l.place l.sorted.items ++ with_bind l.bind (drop l.place l.sorted.items);
}
