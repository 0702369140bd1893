-- What values are as JSON.
use Rattle.std.specs.Prelude.{Bool, true}
use Rattle.serde_json.specs.Data.{Data, boolean, number, string}
use Rattle.serde_json.specs.Find.{of_integer}
use Rattle.mtp_codes.specs.Texts.{is_short}
use Rattle.mtp_codes.specs.declared.value.Value.{Value}
use Rattle.mtp_codes.specs.declared.value.Value.TheVariants.{Whole, Bit, Text}
use Rattle.mtp_codes.specs.Numbers.{greatest_i64, is_within, least_i64}

-- a value of a variable or of a parameter as JSON
abbrev pub scalar_data : Value → Data
scalar_data (Whole z) = number (of_integer z)
scalar_data (Bit bit) = boolean bit
scalar_data (Text bytes) = string bytes

-- the value is one that a program can hold: its number has 64 bits, its text is short
abbrev pub is_scalar : Value → Bool
is_scalar (Whole z) = is_within least_i64 greatest_i64 z
is_scalar (Bit bit) = true
is_scalar (Text bytes) = is_short bytes
