-- The tokens so far and those of the names that are left are all.
use Rattle.std.proofs.Common.{◌≡◌, ◌≤◌, ◌-◌, ◌++◌, drop, length}
use Rattle.pol_record.specs.Objects.{data_tokens}
use Rattle.pol_overview.specs.Lists.{each_data}
use Rattle.pol_overview.proofs.Places.{rest_tokens}
use Rattle.pol_overview.proofs.lists.write_each.Given as goal

abbrev pub invariant-loop-name : goal.invariant-loop-name
invariant-loop-name g l = record {
  tokens : l.writer.tokens
      ++ rest_tokens (g.L.Listed.told l.list) (drop l.place (g.L.Listed.names l.list))
      ≡ l.fn.writer.tokens ++ data_tokens (each_data (g.L.Listed.told l.list) (g.L.Listed.names l.list));
  before : l.writer.before ≡ l.fn.writer.before;
  low : l.place ≤ length (g.L.Listed.names l.list);
}

abbrev pub decreases-loop-name : goal.decreases-loop-name
decreases-loop-name g l = length (g.L.Listed.names l.list) - l.place
