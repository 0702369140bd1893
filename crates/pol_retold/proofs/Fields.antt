-- The object of fields whose keys and values are in range is sound.
use Rattle.std.proofs.Common.{◌≡◌, ◌≤◌, ◌<◌, ◌^◌, ◌&&◌, [], ◌∷◌, ℕ, zero, suc, List, Bool, true, false, Some, refl, ap}
use Rattle.std.proofs.Common.{arith, pos, negsuc, length, decimal, inl, inr}
use Rattle.std.proofs.lemmas.Bool.{and_parts, leb-true, cases_eq}
use Rattle.std.proofs.lemmas.Fmt.{IsAscii-decimal}
use Rattle.std.specs.List.{AllByRecursion, fold, insert, list_all, position_or_len}
use Rattle.std.specs.Prelude.{map, nat_le, option_map}
use Rattle.std.specs.Fmt.{digits, signed_decimal}
use Rattle.std.specs.Str.{IsUtf8}
use Rattle.std.proofs.lemmas.Str.{IsUtf8-append, IsUtf8-from_ascii, IsUtf8-nil}
use Rattle.json.specs.Tree.{MembersHaveNumbers, ItemsHaveNumbers}
use Rattle.json.specs.Print.{IsNumber, quoted}
use Rattle.json.proofs.Printed.Decimals.{IsNumber-decimal, IsNumber-signed_decimal}
use Rattle.json.proofs.Printed.Utf8.{IsUtf8-are_ascii, IsUtf8-boolean, IsUtf8-quoted}
use Rattle.serde_json.specs.Data.{boolean, number as number_data, string, unsigned, negative, Members, no_members}
use Rattle.serde_json.specs.Data.{depth, members_depth, items_depth, put}
use Rattle.serde_json.specs.Read.{of_items, of_members}
use Rattle.serde_json.specs.View.{items_of}
use Rattle.serde_json.specs.Written.{comma_if, compact_text, items_outline, items_text, members_outline, members_text}
use Rattle.serde_json.proofs.Numbers.{number_of-decimal, number_of-negative}
use Rattle.serde_json.proofs.OnLiterals.{serde_json_on_literals}
use Rattle.mtp_codes.specs.Names.{is_name}
use Rattle.mtp_codes.specs.Numbers.{greatest_u32}
use Rattle.mtp_codes.proofs.Ascii.{name_is_text}
use Rattle.mtp_codes.specs.declared.value.Reading.{Reading}
use Rattle.mtp_codes.specs.declared.value.Reading.TheVariants.{Whole, Bit}
use Rattle.chart_core.specs.declared.limits.TheConstants.{MOST_READS}
use Rattle.event_json.specs.Fields.{PlainField, PlainFieldValue, in_order, number, placed, readings, stands_before}
use Rattle.event_json.specs.Fields.{text}
use Rattle.event_json.specs.FieldRanges.{is_reading_in_range, is_value_in_range}
use Rattle.pol_record.specs.Objects.{fields_data, members_in, reading_data, value_data}
use Rattle.pol_retold.proofs.Exact.{IsSound}

-- ---- numbers

-- the text of a number of 64 bits is UTF-8
decimal_utf8 : (n : ℕ) → n < 2 ^ 64 → IsUtf8 (decimal n)
decimal_utf8 n few = IsUtf8-from_ascii (decimal n) (IsAscii-decimal n few)

-- a number of 64 bits is sound
whole_sound : (n : ℕ) → n < 2 ^ 64 → IsSound (number_data (unsigned n))
whole_sound n few =
    record {
      utf8 = decimal_utf8 n few;
      numbers = IsNumber-decimal n few;
      again = ap (option_map number_data) (number_of-decimal n few);
    }

-- the least number of 64 bits is a number
least_number : IsNumber (signed_decimal (negsuc 9223372036854775807))
unfolding serde_json_on_literals digits
least_number = refl

-- a negative number of 64 bits is a number
negative_number : (n : ℕ) → n < 2 ^ 63 → IsNumber (signed_decimal (negsuc n))
negative_number n few =
    elim (cases_eq n 9223372036854775807) [
      | inl same ↦ rw same least_number
      | inr other ↦ IsNumber-signed_decimal (negsuc n) (omega arith)
    ]

-- a negative number of 64 bits is sound
negative_sound : (n : ℕ) → n < 2 ^ 63 → IsSound (number_data (negative (negsuc n)))
negative_sound n few =
    record {
      utf8 =
          IsUtf8-append (45 ∷ []) (decimal (suc n)) (IsUtf8-are_ascii (45 ∷ []) refl)
          (decimal_utf8 (suc n) (omega arith));
      numbers = negative_number n few;
      again = ap (option_map number_data) (number_of-negative n few);
    }

-- ---- values of fields

-- a text is sound
text_sound : (bytes : List ℕ) → IsUtf8 bytes → IsSound (string bytes)
text_sound bytes utf8 = record { utf8 = IsUtf8-quoted bytes utf8; numbers = tt; again = refl }

-- a truth value is sound
bit_sound : (bit : Bool) → IsSound (boolean bit)
bit_sound bit = record { utf8 = IsUtf8-boolean bit; numbers = tt; again = refl }

-- a reading in range is sound
reading_sound : (reading : Reading) → is_reading_in_range reading ≡ true → IsSound (reading_data reading)
reading_sound (Bit bit) held = bit_sound bit
reading_sound (Whole (pos n)) held =
    let below : n ≤ 9223372036854775807 = leb-true n 9223372036854775807 held in whole_sound n (omega (arith, below))
reading_sound (Whole (negsuc n)) held =
    let both = and_parts (nat_le n 9223372036854775807) true held in
    let below : n ≤ 9223372036854775807 = leb-true n 9223372036854775807 both.0 in
    negative_sound n (omega (arith, below))

-- a comma, where something stands before, is UTF-8
comma_utf8 : (later : Bool) → IsUtf8 (comma_if later)
comma_utf8 true = IsUtf8-are_ascii (44 ∷ []) refl
comma_utf8 false = IsUtf8-nil

-- readings in range are UTF-8
readings_utf8 : (later : Bool) (told : List Reading) → list_all is_reading_in_range told ≡ true
    → IsUtf8 (items_text later (items_of (map reading_data told)))
readings_utf8 later [] held = IsUtf8-are_ascii (93 ∷ []) refl
readings_utf8 later (reading ∷ others) held =
    let both = and_parts (is_reading_in_range reading) (list_all is_reading_in_range others) held in
    IsUtf8-append (comma_if later) _ (comma_utf8 later)
    (IsUtf8-append (compact_text (reading_data reading)) _ (reading_sound reading both.0).utf8
    (readings_utf8 true others both.1))

-- the numbers of readings in range are numbers
readings_numbers : (told : List Reading) → list_all is_reading_in_range told ≡ true
    → ItemsHaveNumbers (items_outline (items_of (map reading_data told)))
readings_numbers [] held = tt
readings_numbers (reading ∷ others) held =
    let both = and_parts (is_reading_in_range reading) (list_all is_reading_in_range others) held in
    ((reading_sound reading both.0).numbers, readings_numbers others both.1)

-- readings in range are read again
readings_again : (told : List Reading) → list_all is_reading_in_range told ≡ true
    → of_items (items_outline (items_of (map reading_data told))) ≡ Some (items_of (map reading_data told))
readings_again [] held = refl
readings_again (reading ∷ others) held =
    let both = and_parts (is_reading_in_range reading) (list_all is_reading_in_range others) held in
    rw ((reading_sound reading both.0).again, readings_again others both.1) refl

-- a value in range is sound
value_sound : (value : PlainFieldValue) → is_value_in_range value ≡ true → IsSound (value_data value)
value_sound (text told) held = text_sound told (name_is_text told held)
value_sound (number told) held =
    let below : told ≤ greatest_u32 =
    leb-true told greatest_u32 (and_parts (nat_le 0 told) (nat_le told greatest_u32) held).1 in
    whole_sound told (omega (arith, below))
value_sound (readings told) held =
    let each = (and_parts (nat_le (length told) MOST_READS) (list_all is_reading_in_range told) held).1 in
    record {
      utf8 = IsUtf8-append (91 ∷ []) _ (IsUtf8-are_ascii (91 ∷ []) refl) (readings_utf8 false told each);
      numbers = readings_numbers told each;
      again = rw (readings_again told each) refl;
    }

-- ---- fields

-- the key is a name, and the value is in range
abbrev pub is_field_in_range : PlainField → Bool
is_field_in_range field = is_name field.key && is_value_in_range field.value

-- each of these fields has a name for its key and a value in range
abbrev pub AreInRange : List PlainField → Type 0
AreInRange fields = AllByRecursion (λ field. is_field_in_range field ≡ true) fields

-- fields in range are UTF-8
fields_utf8 : (later : Bool) (fields : List PlainField) → AreInRange fields
    → IsUtf8 (members_text later (members_in fields))
fields_utf8 later [] held = IsUtf8-are_ascii (125 ∷ []) refl
fields_utf8 later (field ∷ fields) held =
    let both = and_parts (is_name field.key) (is_value_in_range field.value) held.0 in
    IsUtf8-append (comma_if later) _ (comma_utf8 later)
    (IsUtf8-append (quoted field.key) _ (IsUtf8-quoted field.key (name_is_text field.key both.0))
    (IsUtf8-append (58 ∷ []) _ (IsUtf8-are_ascii (58 ∷ []) refl)
    (IsUtf8-append (compact_text (value_data field.value)) _ (value_sound field.value both.1).utf8
    (fields_utf8 true fields held.1))))

-- the numbers of fields in range are numbers
fields_numbers : (fields : List PlainField) → AreInRange fields →
    MembersHaveNumbers (members_outline (members_in fields))
fields_numbers [] held = tt
fields_numbers (field ∷ fields) held =
    let both = and_parts (is_name field.key) (is_value_in_range field.value) held.0 in
    ((value_sound field.value both.1).numbers, fields_numbers fields held.1)

-- the members, with each of these fields put among them
abbrev pub put_fields : List PlainField → Members → Members
put_fields [] found = found
put_fields (field ∷ fields) found = put_fields fields (put field.key (value_data field.value) found)

-- fields in range are read again, put one by one among the members
fields_again : (fields : List PlainField) (found : Members) → AreInRange fields
    → of_members (members_outline (members_in fields)) found ≡ Some (put_fields fields found)
fields_again [] found held = refl
fields_again (field ∷ fields) found held =
    let both = and_parts (is_name field.key) (is_value_in_range field.value) held.0 in
    rw (value_sound field.value both.1).again
    (fields_again fields (put field.key (value_data field.value) found) held.1)

-- what holds of each of some fields, and of one more, holds of each where that one was put at its place
insert_all : {A : Type 0} (P : A → Type 0) (xs : List A) (i : ℕ) (x : A) → AllByRecursion P xs → P x
    → AllByRecursion P (insert xs i x)
insert_all P [] zero x all holds = (holds, tt)
insert_all P [] (suc i) x all holds = (holds, tt)
insert_all P (y ∷ xs) zero x all holds = (holds, all)
insert_all P (y ∷ xs) (suc i) x all holds = (all.0, insert_all P xs i x all.1 holds)

-- what holds of each of some fields holds of each of them in order
ordered_all : (P : PlainField → Type 0) (fields done : List PlainField) → AllByRecursion P fields
    → AllByRecursion P done → AllByRecursion P (fold placed done fields)
ordered_all P [] done all before = before
ordered_all P (field ∷ fields) done all before =
    ordered_all P fields (placed done field) all.1
    (insert_all P done (position_or_len (stands_before field.key) done) field before all.0)

-- fields in range are so in order
pub in_order_range : (fields : List PlainField) → AreInRange fields → AreInRange (in_order fields)
in_order_range fields held = ordered_all (λ field. is_field_in_range field ≡ true) fields [] held tt

-- the object of fields in range is sound, where its keys rise
pub fields_sound : (fields : List PlainField) → AreInRange fields
    → put_fields (in_order fields) no_members ≡ members_in (in_order fields) → IsSound (fields_data fields)
fields_sound fields held rising =
    let ordered = in_order_range fields held in
    record {
      utf8 =
          IsUtf8-append (123 ∷ []) _ (IsUtf8-are_ascii (123 ∷ []) refl) (fields_utf8 false (in_order fields) ordered);
      numbers = fields_numbers (in_order fields) ordered;
      again = rw (fields_again (in_order fields) no_members ordered, rising) refl;
    }

-- ---- how deep they nest

-- readings don't nest
readings_depth : (told : List Reading) → items_depth (items_of (map reading_data told)) ≤ 0
readings_depth [] = omega arith
readings_depth (Whole z ∷ others) = omega (arith, readings_depth others)
readings_depth (Bit bit ∷ others) = omega (arith, readings_depth others)

-- a value nests one deep at most
value_depth : (value : PlainFieldValue) → depth (value_data value) ≤ 1
value_depth (text told) = omega arith
value_depth (number told) = omega arith
value_depth (readings told) = omega (arith, readings_depth told)

-- the values of fields nest one deep at most
members_depth_is : (fields : List PlainField) → members_depth (members_in fields) ≤ 1
members_depth_is [] = omega arith
members_depth_is (field ∷ fields) = omega (arith, value_depth field.value, members_depth_is fields)

-- the object of fields nests two deep at most
pub fields_depth : (fields : List PlainField) → depth (fields_data fields) ≤ 2
fields_depth fields = omega (arith, members_depth_is (in_order fields))
