-- The first greater key, or behind all.
use Rattle.std.proofs.Common.{◌∙◌, ap, length}
use Rattle.std.specs.Option.{unwrap_or}
use Rattle.event_json.specs.Fields.{plain_field, stands_before}
use Rattle.event_json.proofs.Places.{seen_place}
use Rattle.event_json.proofs.fields.place_of.Goals as goal

pub returns-clause-place : goal.returns-clause-place
returns-clause-place c =
    c.unwrap_or.ensures
    ∙ ap (λ found. unwrap_or found (length c.args.fields.now)) c.first_greater.ensures
    ∙ seen_place (stands_before c.args.key.now) plain_field c.args.fields.now
