-- Fields as JSON objects.
use Rattle.std.specs.Prelude.{List, [], ◌∷◌, map}
use Rattle.json.specs.Token.{Token}
use Rattle.json.specs.Tree.{json_tokens}
use Rattle.serde_json.specs.Data.{Data, boolean, number as number_data, unsigned, string, array, object, Members}
use Rattle.serde_json.specs.Data.{member, no_members}
use Rattle.serde_json.specs.Find.{of_integer}
use Rattle.serde_json.specs.View.{items_of}
use Rattle.serde_json.specs.Written.{outline}
use Rattle.mtp_codes.specs.declared.value.Reading.{Reading}
use Rattle.mtp_codes.specs.declared.value.Reading.TheVariants.{Whole, Bit}
use Rattle.event_json.specs.Fields.{PlainField, PlainFieldValue, text, number, readings, in_order}

-- a reading as JSON
abbrev pub reading_data : Reading → Data
reading_data (Whole value) = number_data (of_integer value)
reading_data (Bit value) = boolean value

-- the readings by which a node decided, as JSON
abbrev pub readings_data : List Reading → Data
readings_data values = array (items_of (map reading_data values))

-- the value of a field as JSON
abbrev pub value_data : PlainFieldValue → Data
value_data (text value) = string value
value_data (number value) = number_data (unsigned value)
value_data (readings values) = readings_data values

-- fields as members
abbrev pub members_in : List PlainField → Members
members_in [] = no_members
members_in (field ∷ fields) = member field.key (value_data field.value) (members_in fields)

-- an object of these fields, in byte order of their keys
abbrev pub fields_data : List PlainField → Data
fields_data fields = object (members_in (in_order fields))

-- the tokens of a value
abbrev pub data_tokens : Data → List Token
data_tokens value = json_tokens (outline value)
