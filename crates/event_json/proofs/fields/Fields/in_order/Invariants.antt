-- The fields so far are in order.
use Rattle.std.proofs.Common.{◌≡◌, length, map, take}
use Rattle.event_json.specs.Fields.{plain_field, fields_of, in_order}
use Rattle.event_json.proofs.fields.Fields.in_order.Given as goal

abbrev pub invariant-loop-field : goal.invariant-loop-field
invariant-loop-field l = record {
  fields : fields_of l.sorted ≡ in_order (map plain_field (take l.field-index l.self.items.items));
  count : length (fields_of l.sorted) ≡ l.field-index;
}
