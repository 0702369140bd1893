-- Values that are read by themselves: numbers in a range, truth values, texts, names, lists and objects.
use Rattle.std.specs.Prelude.{ℕ, nat_le, ℤ, pos, negsuc, List, [], ◌∷◌, length, Bool, Option, Some, None, option_and_then, Result, Ok, Err, if◌then◌else◌}
use Rattle.std.specs.Str.{bytes_eq}
use Rattle.serde_json.specs.Data.{Data, null, boolean, number, string, array, object, Items, Members}
use Rattle.serde_json.specs.Events.{items_len}
use Rattle.serde_json.specs.Find.{as_number, as_integer, as_bool, as_str, as_array, as_object}
use Rattle.mtp_codes.specs.Numbers.{least_i64, greatest_i64, greatest_u32, is_within, is_between}
use Rattle.mtp_codes.specs.Codes.{named_by}
use Rattle.mtp_codes.specs.Names.{is_name}
use Rattle.mtp_codes.specs.Texts.{is_short}
use Rattle.mtp_codes.specs.declared.value.Value.{Value}
use Rattle.mtp_codes.specs.declared.value.Value.TheVariants.{Whole, Bit, Text}
use Rattle.mtp_json.specs.declared.fault.FaultKind.TheVariants.{WrongKind, OutOfRange}
use Rattle.mtp_json.specs.ReadResult.{Finding}

-- what a value holds, where it is of the kind that is asked for
abbrev pub of_kind : {A : Type 0} → Option A → Finding A
of_kind None = Err WrongKind
of_kind (Some value) = Ok value

-- what was found for a value in a table or under a limit
abbrev pub or_out_of_range : {A : Type 0} → Option A → Finding A
or_out_of_range None = Err OutOfRange
or_out_of_range (Some value) = Ok value

-- what a parser gave; where it gave nothing, the text is out of range
abbrev pub parsed : {A E : Type 0} → Result A E → Finding A
parsed (Ok value) = Ok value
parsed (Err error) = Err OutOfRange

-- the whole number that serde_json holds, if it holds one
abbrev pub whole_number : Data → Option ℤ
whole_number value = option_and_then as_integer (as_number value)

-- a whole number that was found, or none, against its range
abbrev pub whole_in : ℤ → ℤ → Option ℤ → Finding ℤ
whole_in low high None = Err WrongKind
whole_in low high (Some z) = if is_within low high z then Ok z else Err OutOfRange

-- a whole number from low to high
abbrev pub whole : ℤ → ℤ → Data → Finding ℤ
whole low high value = whole_in low high (whole_number value)

-- a whole number that was found, or none, against a range without negative numbers
abbrev pub count_in : ℕ → ℕ → Option ℤ → Finding ℕ
count_in low high None = Err WrongKind
count_in low high (Some (pos n)) = if is_between low high n then Ok n else Err OutOfRange
count_in low high (Some (negsuc n)) = Err OutOfRange

-- a whole number from low to high, which are not negative
abbrev pub count : ℕ → ℕ → Data → Finding ℕ
count low high value = count_in low high (whole_number value)

-- a number that was found, against a table of codes
abbrev pub code_in : {A : Type 0} → List (A × ℕ) → Finding ℕ → Finding A
code_in table (Ok code) = or_out_of_range (named_by code table)
code_in table (Err kind) = Err kind

-- a whole number of 32 bits that is a code of the table, as the item beside it
abbrev pub code : {A : Type 0} → List (A × ℕ) → Data → Finding A
code table value = code_in table (count 0 greatest_u32 value)

-- true or false
abbrev pub truth : Data → Finding Bool
truth value = of_kind (as_bool value)

-- a text
abbrev pub text : Data → Finding (List ℕ)
text value = of_kind (as_str value)

-- a text that was found, or none, against its length
abbrev pub text_in : ℕ → Option (List ℕ) → Finding (List ℕ)
text_in limit None = Err WrongKind
text_in limit (Some bytes) = if nat_le (length bytes) limit then Ok bytes else Err OutOfRange

-- a text of at most this many bytes
abbrev pub text_to : ℕ → Data → Finding (List ℕ)
text_to limit value = text_in limit (as_str value)

-- a text that was found, or none, as a name
abbrev pub name_in : Option (List ℕ) → Finding (List ℕ)
name_in None = Err WrongKind
name_in (Some bytes) = if is_name bytes then Ok bytes else Err OutOfRange

-- a text that is a name
abbrev pub name : Data → Finding (List ℕ)
name value = name_in (as_str value)

-- the item beside this text in a table, if the table has the text
abbrev pub meaning_of : {A : Type 0} → List ℕ → List (List ℕ × A) → Option A
meaning_of bytes [] = None
meaning_of bytes (row ∷ rows) = if bytes_eq bytes row.0 then Some row.1 else meaning_of bytes rows

-- a text that was found, or none, against a table of words
abbrev pub word_in : {A : Type 0} → List (List ℕ × A) → Option (List ℕ) → Finding A
word_in table None = Err WrongKind
word_in table (Some bytes) = or_out_of_range (meaning_of bytes table)

-- a text of the table, as the item beside it
abbrev pub word : {A : Type 0} → List (List ℕ × A) → Data → Finding A
word table value = word_in table (as_str value)

-- a whole number as a value of a variable or of a parameter
abbrev pub whole_scalar : Finding ℤ → Finding Value
whole_scalar (Ok z) = Ok (Whole z)
whole_scalar (Err kind) = Err kind

-- a value of a variable or of a parameter: a whole number of 64 bits, a truth value, or a short text
abbrev pub scalar : Data → Finding Value
scalar null = Err WrongKind
scalar (boolean bit) = Ok (Bit bit)
scalar (number held) = whole_scalar (whole_in least_i64 greatest_i64 (as_integer held))
scalar (string bytes) = if is_short bytes then Ok (Text bytes) else Err OutOfRange
scalar (array _) = Err WrongKind
scalar (object _) = Err WrongKind

-- any value
abbrev pub anything : Data → Finding Data
anything value = Ok value

-- a list
abbrev pub items : Data → Finding Items
items value = of_kind (as_array value)

-- a list that was found, or none, against its size
abbrev pub sized : ℕ → ℕ → Option Items → Finding Items
sized low high None = Err WrongKind
sized low high (Some list) = if is_between low high (items_len list) then Ok list else Err OutOfRange

-- a list of low to high items
abbrev pub items_in : ℕ → ℕ → Data → Finding Items
items_in low high value = sized low high (as_array value)

-- a value, of which it was found whether it is an object
abbrev pub object_in : Data → Option Members → Finding Data
object_in value None = Err WrongKind
object_in value (Some _) = Ok value

-- an object
abbrev pub an_object : Data → Finding Data
an_object value = object_in value (as_object value)
