-- What a value is, compared part by part: the steps of the loops, and what follows where all parts are the same.
use Rattle.std.proofs.Common.{◌≡◌, ◌<◌, ◌≤◌, ◌∷◌, [], ◌++◌, ◌==◌, ◌^◌, ℕ, ℤ, pos, negsuc, suc, length, map, List, Bool}
use Rattle.std.proofs.Common.{true, false, Some, None, refl, sym, ap, ◌∙◌, arith, if◌then◌else◌}
use Rattle.std.proofs.lemmas.Bool.{and_parts, eqb-true, le-leb}
use Rattle.std.proofs.lemmas.Bool.Decides.{Decides-eqb, Decides-int_eq, nat_tests}
use Rattle.std.proofs.lemmas.List.{append-nil}
use Rattle.std.proofs.lemmas.Slice.Eq.{bytes_eq-Decides}
use Rattle.std.specs.Ordering.{int_eq}
use Rattle.std.specs.Prelude.{nat_le, nat_lt}
use Rattle.std.specs.Str.{bytes_eq}
use Rattle.serde_json.specs.Data.{Data, null, boolean, number as number_data, unsigned, negative, float, string, array}
use Rattle.serde_json.specs.Data.{object, Items, no_items, item, Members, no_members, member}
use Rattle.serde_json.specs.Events.{items_len}
use Rattle.serde_json.specs.Find.{of_integer}
use Rattle.serde_json.specs.View.{items_of, items_view}
use Rattle.serde_json.specs.declared.value.Value.{Value}
use Rattle.serde_json.proofs.Views.{items_len-items_view}
use Rattle.mtp_codes.specs.declared.value.Reading.{Reading}
use Rattle.mtp_codes.specs.declared.value.Reading.TheVariants.{Whole, Bit}
use Rattle.mtp_codes.proofs.Names.{same_refl}
use Rattle.chart_core.specs.declared.limits.TheConstants.{MOST_READS}
use Rattle.event_json.specs.Fields.{PlainField, PlainFieldValue, plain_field, in_order, number, readings, text}
use Rattle.event_json.specs.declared.fields.Field.{Field}
use Rattle.pol_record.specs.Objects.{fields_data, members_in, reading_data, value_data}
use Rattle.pol_entries.specs.Compared.{are_fields, are_readings, is_field, is_object, is_reading, is_there, is_value}
use Rattle.pol_entries.specs.Compared.{is_whole, same_bit}
use Rattle.pol_entries.specs.Found.{each_reading, few_readings}

-- ---- goals of loops

-- all of the values were read, where they are few
pub few_read : (values left : List Value) (front : List Reading) → left ≡ [] → length values ≤ MOST_READS
    → front ++ each_reading (items_view left) ≡ each_reading (items_view values)
    → front ≡ few_readings (items_view values)
few_read values left front none few read =
    let small : nat_le (items_len (items_view values)) MOST_READS ≡ true =
    rw (items_len-items_view values) (le-leb (length values) MOST_READS few) in
    sym (append-nil front) ∙ (rw none at read)
    ∙ sym (ap (λ fits. if fits then each_reading (items_view values) else []) small)

-- where fields are left, there have to be members
pub fields_left : (fields : List Field) → 0 < length fields → false ≡ are_fields (map plain_field fields) no_members
fields_left [] some = absurd (omega arith)
fields_left (field ∷ fields) some = refl

-- ---- what follows where all parts are the same

-- a bit that is compared equal to another has the value of the other
bit_is : (bit other : Bool) → same_bit bit other ≡ true → boolean other ≡ boolean bit
bit_is true true same = refl
bit_is true false same = absurd cc
bit_is false true same = absurd cc
bit_is false false same = refl

-- a negative number that is compared equal to another is that number
negative_is : (n : ℕ) (z : ℤ) → int_eq z (negsuc n) ≡ true
    → number_data (negative z) ≡ number_data (negative (negsuc n))
negative_is n z same = ap (λ z. number_data (negative z)) ((Decides-int_eq z (negsuc n)).0 same)

-- a number without a sign that is compared equal to a negative one, as none is, is the same number
too_great : (below amount : ℕ) (fits : Bool)
    → is_there (λ found. int_eq found (negsuc below)) (if fits then Some (pos amount) else None) ≡ true
    → number_data (unsigned amount) ≡ number_data (negative (negsuc below))
too_great below amount true same =
    let is : pos amount ≡ negsuc below = (Decides-int_eq (pos amount) (negsuc below)).0 same in absurd cc
too_great below amount false same = absurd cc

-- a value that is compared equal to a whole number is that number
whole_is : (z : ℤ) (value : Data) → is_whole z value ≡ true → value ≡ number_data (of_integer z)
whole_is (pos n) (number_data (unsigned m)) same = ap (λ k. number_data (unsigned k)) (eqb-true m n same)
whole_is (pos n) (number_data (negative z)) same = absurd cc
whole_is (pos n) (number_data (float x)) same = absurd cc
whole_is (pos n) null same = absurd cc
whole_is (pos n) (boolean b) same = absurd cc
whole_is (pos n) (string s) same = absurd cc
whole_is (pos n) (array s) same = absurd cc
whole_is (pos n) (object s) same = absurd cc
whole_is (negsuc n) (number_data (unsigned m)) same = too_great n m (nat_lt m (2 ^ 63)) same
whole_is (negsuc n) (number_data (negative z)) same = negative_is n z same
whole_is (negsuc n) (number_data (float x)) same = absurd cc
whole_is (negsuc n) null same = absurd cc
whole_is (negsuc n) (boolean b) same = absurd cc
whole_is (negsuc n) (string s) same = absurd cc
whole_is (negsuc n) (array s) same = absurd cc
whole_is (negsuc n) (object s) same = absurd cc

-- a value that is compared equal to a reading is the value of that reading
reading_is : (reading : Reading) (value : Data) → is_reading reading value ≡ true → value ≡ reading_data reading
reading_is (Whole z) value same = whole_is z value same
reading_is (Bit bit) (boolean other) same = bit_is bit other same
reading_is (Bit bit) (number_data n) same = absurd cc
reading_is (Bit bit) null same = absurd cc
reading_is (Bit bit) (string s) same = absurd cc
reading_is (Bit bit) (array s) same = absurd cc
reading_is (Bit bit) (object s) same = absurd cc

-- items that are compared equal to readings are the values of these readings
readings_are : (told : List Reading) (values : Items) → are_readings told values ≡ true
    → values ≡ items_of (map reading_data told)
readings_are [] no_items same = refl
readings_are [] (item value rest) same = absurd cc
readings_are (reading ∷ others) no_items same = absurd cc
readings_are (reading ∷ others) (item value rest) same =
    let both = and_parts (is_reading reading value) (are_readings others rest) same in
    rw (reading_is reading value both.0, readings_are others rest both.1) refl

-- a value that is compared equal to the value of a field is that value
value_is : (told : PlainFieldValue) (value : Data) → is_value told value ≡ true → value ≡ value_data told
value_is (text told) (string found) same = ap string ((bytes_eq-Decides found told).0 same)
value_is (text told) null same = absurd cc
value_is (text told) (boolean b) same = absurd cc
value_is (text told) (number_data n) same = absurd cc
value_is (text told) (array s) same = absurd cc
value_is (text told) (object s) same = absurd cc
value_is (number told) (number_data (unsigned found)) same =
    ap (λ n. number_data (unsigned n)) (eqb-true found told same)
value_is (number told) (number_data (negative z)) same = absurd cc
value_is (number told) (number_data (float x)) same = absurd cc
value_is (number told) null same = absurd cc
value_is (number told) (boolean b) same = absurd cc
value_is (number told) (string s) same = absurd cc
value_is (number told) (array s) same = absurd cc
value_is (number told) (object s) same = absurd cc
value_is (readings told) (array values) same = ap array (readings_are told values same)
value_is (readings told) null same = absurd cc
value_is (readings told) (boolean b) same = absurd cc
value_is (readings told) (number_data n) same = absurd cc
value_is (readings told) (string s) same = absurd cc
value_is (readings told) (object s) same = absurd cc

-- members that are compared equal to fields are the members of these fields
members_are : (fields : List PlainField) (members : Members) → are_fields fields members ≡ true
    → members ≡ members_in fields
members_are [] no_members same = refl
members_are [] (member key value rest) same = absurd cc
members_are (field ∷ fields) no_members same = absurd cc
members_are (field ∷ fields) (member key value rest) same =
    let both = and_parts (is_field key value field) (are_fields fields rest) same in
    let own = and_parts (bytes_eq key field.key) (is_value field.value value) both.0 in
    rw ((bytes_eq-Decides key field.key).0 own.0, value_is field.value value own.1, members_are fields rest both.1) refl

-- a value that is compared equal to fields is their object
pub object_is : (fields : List PlainField) (value : Data) → is_object fields value ≡ true → value ≡ fields_data fields
object_is fields (object members) same = ap object (members_are (in_order fields) members same)
object_is fields null same = absurd cc
object_is fields (boolean b) same = absurd cc
object_is fields (number_data n) same = absurd cc
object_is fields (string s) same = absurd cc
object_is fields (array s) same = absurd cc

-- ---- values are compared equal to themselves

-- a bit is compared equal to itself
bit_same : (bit : Bool) → same_bit bit bit ≡ true
bit_same true = refl
bit_same false = refl

-- a number is compared equal to itself
number_same : (n : ℕ) → (n == n) ≡ true
number_same n = (Decides-eqb n n).1 refl

-- the value of a reading is compared equal to it
reading_same : (reading : Reading) → is_reading reading (reading_data reading) ≡ true
reading_same (Whole (pos n)) = number_same n
reading_same (Whole (negsuc n)) = (Decides-int_eq (negsuc n) (negsuc n)).1 refl
reading_same (Bit bit) = bit_same bit

-- the values of readings are compared equal to them
readings_same : (told : List Reading) → are_readings told (items_of (map reading_data told)) ≡ true
readings_same [] = refl
readings_same (reading ∷ others) = rw (reading_same reading, readings_same others) refl

-- the value of a field is compared equal to the field's value
value_same : (told : PlainFieldValue) → is_value told (value_data told) ≡ true
value_same (text told) = same_refl told
value_same (number told) = number_same told
value_same (readings told) = readings_same told

-- the members of fields are compared equal to them
members_same : (fields : List PlainField) → are_fields fields (members_in fields) ≡ true
members_same [] = refl
members_same (field ∷ fields) = rw (same_refl field.key, value_same field.value, members_same fields) refl

-- the object of fields is compared equal to them
pub object_same : (fields : List PlainField) → is_object fields (fields_data fields) ≡ true
object_same fields = members_same (in_order fields)

-- a number that comes after another is not zero
not_zero : (n : ℕ) → (suc n == 0) ≡ false
not_zero n = grind (arith, nat_tests)

-- where no reading is left, no item may be
pub no_reading_left : (left : List Reading) (values : List Value) → length left ≡ 0
    → (length values == 0) ≡ are_readings left (items_view values)
no_reading_left [] [] none = refl
no_reading_left [] (value ∷ values) none = not_zero (length values)
no_reading_left (reading ∷ left) values none = absurd (omega arith)
