-- The binds so far and those that are left are all of each kind.
use Rattle.std.proofs.Common.{◌≡◌, ◌++◌, drop}
use Rattle.std.specs.Prelude.{filter, not}
use Rattle.chart_core.specs.Charts.{plain_chart}
use Rattle.pol_find.specs.Offers.{is_stepped}
use Rattle.pol_find.proofs.offers.offered.Given as goal

abbrev pub invariant-loop-bind : goal.invariant-loop-bind
invariant-loop-bind l = record {
  held : l.held.items ++ filter (is_stepped (plain_chart l.chart)) (drop l.bind-index l.binds)
      ≡ filter (is_stepped (plain_chart l.chart)) l.binds;
  watched : l.watched.items ++ filter (λ bind. not (is_stepped (plain_chart l.chart) bind)) (drop l.bind-index l.binds)
      ≡ filter (λ bind. not (is_stepped (plain_chart l.chart) bind)) l.binds;
}
