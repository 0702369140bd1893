use Rattle.std.proofs.Common.{◌≡◌, drop, map}
use Rattle.std.specs.Slice.Iter.{iter_rest}
use Rattle.event_json.specs.Fields.{plain_field}
use Rattle.pol_entries.specs.Same.{same_fields}
use Rattle.pol_entries.proofs.same.same_lists.Given as goal

abbrev pub invariant-loop-field : goal.invariant-loop-field
invariant-loop-field l =
    same_fields (map plain_field (drop l.field-index l.told)) (map plain_field (iter_rest l.rest))
    ≡ same_fields (map plain_field l.told) (map plain_field l.others)
