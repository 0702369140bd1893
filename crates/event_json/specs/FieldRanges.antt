-- What every field of a program is: its text is a name, and its numbers have their widths.
use Rattle.std.specs.Prelude.{nat_le, Bool, true, ◌&&◌, List, length}
use Rattle.std.specs.List.{list_all}
use Rattle.mtp_codes.specs.Names.{is_name}
use Rattle.mtp_codes.specs.Numbers.{greatest_i64, greatest_u32, is_between, is_within, least_i64}
use Rattle.mtp_codes.specs.declared.value.Reading.{Reading}
use Rattle.mtp_codes.specs.declared.value.Reading.TheVariants.{Whole, Bit}
use Rattle.chart_core.specs.declared.limits.TheConstants.{MOST_READS}
use Rattle.event_json.specs.Fields.{PlainField, PlainFieldValue, number, readings, text}

-- a whole number of a reading has 64 bits
abbrev pub is_reading_in_range : Reading → Bool
is_reading_in_range (Whole z) = is_within least_i64 greatest_i64 z
is_reading_in_range (Bit bit) = true

-- a text is a name, a number has 32 bits, and readings are at most as many as a node reads, each in range
abbrev pub is_value_in_range : PlainFieldValue → Bool
is_value_in_range (text told) = is_name told
is_value_in_range (number told) = is_between 0 greatest_u32 told
is_value_in_range (readings told) = nat_le (length told) MOST_READS && list_all is_reading_in_range told

-- the value of each field is in range
abbrev pub are_in_range : List PlainField → Bool
are_in_range fields = list_all (λ field. is_value_in_range field.value) fields
