use Rattle.std.proofs.Common.{◌≡◌, ◌++◌, drop, length}
use Rattle.serde_json.specs.View.{items_view}
use Rattle.pol_entries.specs.Found.{each_reading}
use Rattle.pol_entries.proofs.found.few_readings.Given as goal

abbrev pub invariant-loop-value : goal.invariant-loop-value
invariant-loop-value l = record {
  read : l.readings ++ each_reading (items_view (drop l.value-index l.values)) ≡ each_reading (items_view l.values);
  few : length l.readings ≡ l.value-index;
}
