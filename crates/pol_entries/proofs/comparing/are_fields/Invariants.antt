use Rattle.std.proofs.Common.{◌≡◌, drop, map}
use Rattle.serde_json.specs.View.{members_view}
use Rattle.event_json.specs.Fields.{plain_field}
use Rattle.pol_entries.specs.Compared.{are_fields}
use Rattle.pol_entries.proofs.comparing.are_fields.Given as goal

abbrev pub invariant-loop-field : goal.invariant-loop-field
invariant-loop-field l =
    are_fields (map plain_field (drop l.field-index l.fields)) (members_view l.rest)
    ≡ are_fields (map plain_field l.fields) (members_view l.members.entries)
