use Rattle.std.proofs.Common.{◌≡◌, length}
use Rattle.serde_json.specs.View.{items_view}
use Rattle.pol_entries.specs.Compared.{are_readings}
use Rattle.pol_entries.proofs.comparing.are_readings.Given as goal

abbrev pub invariant-loop-reading : goal.invariant-loop-reading
invariant-loop-reading l = are_readings l.left (items_view l.rest) ≡ are_readings l.readings (items_view l.values)

abbrev pub decreases-loop-reading : goal.decreases-loop-reading
decreases-loop-reading l = length l.left
