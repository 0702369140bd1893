-- Fields: keys and values of which the text of a rule, a log entry or an obstacle is made.
use Rattle.std.specs.Prelude.{ℕ, List, [], map, Bool}
use Rattle.std.specs.List.{fold, insert, position_or_len}
use Rattle.std.specs.Ordering.{nat_cmp, is_lt}
use Rattle.std.specs.Cmp.Lexicographic.{slice_cmp}
use Rattle.mtp_codes.specs.declared.value.Reading.{Reading}
use Rattle.event_json.specs.declared.fields.Field.{Field}
use Rattle.event_json.specs.declared.fields.FieldValue.{FieldValue}
use Rattle.event_json.specs.declared.fields.FieldValue.TheVariants.{Text, Number, Readings}
use Rattle.event_json.specs.declared.fields.Fields.{Fields}

-- the value of a field: a text, a whole number, or readings
pub data PlainFieldValue : Type 0 where
  text : List ℕ → PlainFieldValue
  number : ℕ → PlainFieldValue
  readings : List Reading → PlainFieldValue

-- a value under its key
pub record PlainField : Type 0 where
  pub key : List ℕ
  pub value : PlainFieldValue

-- a text under its key
abbrev pub text_field : List ℕ → List ℕ → PlainField
text_field key value = record { key = key; value = text value }

-- a whole number under its key
abbrev pub number_field : List ℕ → ℕ → PlainField
number_field key value = record { key = key; value = number value }

-- readings under their key
abbrev pub readings_field : List ℕ → List Reading → PlainField
readings_field key values = record { key = key; value = readings values }

-- the key comes before that of a field in byte order
abbrev pub stands_before : List ℕ → PlainField → Bool
stands_before key other = is_lt (slice_cmp nat_cmp key other.key)

-- the fields with one more field at its place: before the first whose key is greater
abbrev pub placed : List PlainField → PlainField → List PlainField
placed fields field = insert fields (position_or_len (stands_before field.key) fields) field

-- the fields in byte order of their keys
abbrev pub in_order : List PlainField → List PlainField
in_order fields = fold placed [] fields

-- what contracts see of a value, of a field and of fields
abbrev pub plain_field_value : FieldValue → PlainFieldValue
plain_field_value (Text value) = text value.now
plain_field_value (Number value) = number value
plain_field_value (Readings values) = readings values.now

abbrev pub plain_field : Field → PlainField
plain_field field = record { key = field.key.now; value = plain_field_value field.value }

abbrev pub fields_of : Fields → List PlainField
fields_of fields = map plain_field fields.items.items
