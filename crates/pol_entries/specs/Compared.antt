-- That a value is the object of some fields.
use Rattle.std.specs.Prelude.{ℕ, ◌==◌, ◌&&◌, ℤ, pos, negsuc, List, [], ◌∷◌, Bool, true, false, Option, Some, None}
use Rattle.std.specs.Prelude.{option_and_then}
use Rattle.std.specs.Ordering.{int_eq}
use Rattle.std.specs.Str.{bytes_eq}
use Rattle.serde_json.specs.Data.{Data, Items, no_items, item, Members, no_members, member}
use Rattle.serde_json.specs.Find.{as_array, as_bool, as_i64, as_number, as_object, as_str, as_u64}
use Rattle.mtp_codes.specs.declared.value.Reading.{Reading}
use Rattle.mtp_codes.specs.declared.value.Reading.TheVariants.{Whole, Bit}
use Rattle.event_json.specs.Fields.{PlainField, PlainFieldValue, in_order, number, readings, text}

-- a value is there and passes the test
abbrev pub is_there : {A : Type 0} → (A → Bool) → Option A → Bool
is_there test None = false
is_there test (Some found) = test found

-- both are true, or both false
abbrev pub same_bit : Bool → Bool → Bool
same_bit true other = other
same_bit false true = false
same_bit false false = true

-- the value is this whole number
abbrev pub is_whole : ℤ → Data → Bool
is_whole (pos n) value = is_there (λ m. m == n) (option_and_then as_u64 (as_number value))
is_whole (negsuc n) value = is_there (λ z. int_eq z (negsuc n)) (option_and_then as_i64 (as_number value))

-- the value is this reading
abbrev pub is_reading : Reading → Data → Bool
is_reading (Whole z) value = is_whole z value
is_reading (Bit bit) value = is_there (same_bit bit) (as_bool value)

-- the items are these readings
abbrev pub are_readings : List Reading → Items → Bool
are_readings [] no_items = true
are_readings [] (item value rest) = false
are_readings (reading ∷ others) no_items = false
are_readings (reading ∷ others) (item value rest) = is_reading reading value && are_readings others rest

-- the value is this value of a field
abbrev pub is_value : PlainFieldValue → Data → Bool
is_value (text told) value = is_there (λ found. bytes_eq found told) (as_str value)
is_value (number told) value = is_there (λ found. found == told) (option_and_then as_u64 (as_number value))
is_value (readings told) value = is_there (are_readings told) (as_array value)

-- the member is this field
abbrev pub is_field : List ℕ → Data → PlainField → Bool
is_field key value field = bytes_eq key field.key && is_value field.value value

-- the members are these fields, one after another
abbrev pub are_fields : List PlainField → Members → Bool
are_fields [] no_members = true
are_fields [] (member key value rest) = false
are_fields (field ∷ fields) no_members = false
are_fields (field ∷ fields) (member key value rest) =
    is_field key value field && are_fields fields rest

-- the value is the object of these fields
abbrev pub is_object : List PlainField → Data → Bool
is_object fields value = is_there (are_fields (in_order fields)) (as_object value)
