-- The fields of a name and of a short text follow from their bytes.
use Rattle.std.specs.Prelude.{ℕ, List, ◌≡◌, take, length}
use Rattle.mtp_codes.specs.Padded.{padded, length-used, padded-used}
use Rattle.mtp_codes.specs.Names.{IsKeptName}
use Rattle.mtp_codes.specs.Texts.{IsKeptText}
use Rattle.mtp_codes.specs.declared.name.Name.TheInside as kept_name
use Rattle.mtp_codes.specs.declared.short.Short.TheInside as kept_text

-- the fields that keep a name
abbrev pub name_fields : List ℕ → kept_name.Inside
name_fields name = record { bytes = padded 32 name; len = length name }

-- the fields made of a kept name's bytes in use are the fields of that name
pub name_fields-kept : (fields : kept_name.Inside) → IsKeptName fields.bytes fields.len
    → name_fields (take fields.len fields.bytes) ≡ fields
name_fields-kept fields kept =
    rw (padded-used 32 fields.bytes fields.len kept.padding, length-used 32 fields.bytes fields.len kept.padding)

-- the fields that keep a short text
abbrev pub text_fields : List ℕ → kept_text.Inside
text_fields text = record { bytes = padded 254 text; len = length text }

-- the fields made of a kept text's bytes in use are the fields of that text
pub text_fields-kept : (fields : kept_text.Inside) → IsKeptText fields.bytes fields.len
    → text_fields (take fields.len fields.bytes) ≡ fields
text_fields-kept fields kept =
    rw (padded-used 254 fields.bytes fields.len kept.padding, length-used 254 fields.bytes fields.len kept.padding)
