-- The readings so far are in range.
use Rattle.std.proofs.Common.{◌≡◌, take, true}
use Rattle.std.specs.List.{list_all}
use Rattle.event_json.specs.FieldRanges.{is_reading_in_range}
use Rattle.event_json.proofs.fields.read_each.Given as goal

abbrev pub invariant-loop-reading : goal.invariant-loop-reading
invariant-loop-reading l = list_all is_reading_in_range (take l.reading-index l.readings) ≡ true
