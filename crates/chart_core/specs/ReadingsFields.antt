-- The fields that keep readings follow from the list.
use Rattle.std.specs.Prelude.{List, ◌≡◌, take, length}
use Rattle.chart_core.specs.Readings.{IsFilledUp, filled_up, length-used, filled_up-used}
use Rattle.mtp_codes.specs.declared.value.Reading.{Reading}
use Rattle.chart_core.specs.declared.readings.Readings.TheInside.{Inside}

-- the fields that keep this list
abbrev pub fields_of : List Reading → Inside
fields_of list = record { items = filled_up list; len = length list }

-- the fields that keep the items in use are the fields themselves
pub fields_of-kept : (fields : Inside) → IsFilledUp fields.items fields.len
    → fields_of (take fields.len fields.items) ≡ fields
fields_of-kept fields kept = rw (filled_up-used fields.items fields.len kept, length-used fields.items fields.len kept)
