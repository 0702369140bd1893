-- The compact text of a value has no line feed.
use Rattle.std.proofs.Common.{◌≡◌, ◌<◌, [], ◌∷◌, ◌++◌, ◌/◌, ◌%◌, ◌==◌, ℕ, zero, suc, List, Bool, true, false, refl, ap}
use Rattle.std.proofs.Common.{◌∙◌, arith, decimal, pos, negsuc, inl, inr, if◌then◌else◌}
use Rattle.std.proofs.lemmas.Bool.{and_parts, cases_lt, cases_eq, ne_eqb}
use Rattle.std.proofs.lemmas.List.Folds.{list_all-append}
use Rattle.std.specs.Prelude.{◌&&◌, ◌+◌, not, nat_lt}
use Rattle.std.specs.Fmt.{digit_glyph, digits, digits_onto}
use Rattle.json.specs.Print.{escape, escape_byte, quoted}
use Rattle.json.proofs.Printed.Strings.{escape_byte_plain}
use Rattle.serde_json.specs.Data.{Data, null, boolean, number, string, array, object, Items, no_items, item, Members}
use Rattle.serde_json.specs.Data.{no_members, member, Num, unsigned, negative, float}
use Rattle.serde_json.specs.Written.{comma_if, compact_text, items_text, members_text, number_text}
use Rattle.pol_io.specs.Pieces.{has_no_feed}

-- two texts without a line feed have none, one behind the other
both : (first second : List ℕ) → has_no_feed first ≡ true → has_no_feed second ≡ true
    → has_no_feed (first ++ second) ≡ true
both first second one two = list_all-append (λ byte. not (byte == 10)) first second ∙ rw (one, two) refl

-- ---- numbers

-- the sign of a digit is no line feed
glyph_no_feed : (digit : ℕ) → not (digit_glyph false digit == 10) ≡ true
glyph_no_feed digit = go (nat_lt digit 10)
  where
    go : (low : Bool) → not ((if low then 48 + digit else 87 + digit) == 10) ≡ true
    go true = ap not (ne_eqb (48 + digit) 10 (λ same. omega (arith, same)))
    go false = ap not (ne_eqb (87 + digit) 10 (λ same. omega (arith, same)))

-- the digits of a number, before others, have none
digits_no_feed : (turns n : ℕ) (later : List ℕ) → has_no_feed later ≡ true
    → has_no_feed (digits_onto turns 10 false n later) ≡ true
digits_no_feed zero n later none = none
digits_no_feed (suc turns) n later none = go (n / 10 == 0) (digits_no_feed turns (n / 10) (glyph ∷ later) one_more)
  where
    glyph : ℕ
    glyph = digit_glyph false (n % 10)

    one_more : has_no_feed (glyph ∷ later) ≡ true
    one_more = rw (glyph_no_feed (n % 10), none) refl

    go : (last : Bool) → has_no_feed (digits_onto turns 10 false (n / 10) (glyph ∷ later)) ≡ true
        → has_no_feed (if last then glyph ∷ later else digits_onto turns 10 false (n / 10) (glyph ∷ later)) ≡ true
    go true rest = one_more
    go false rest = rest

-- the decimal text of a number has none
decimal_no_feed : (n : ℕ) → has_no_feed (decimal n) ≡ true
unfolding digits
decimal_no_feed n = digits_no_feed 64 n [] refl

-- the text of a number of any kind has none
number_no_feed : (n : Num) → has_no_feed (number_text n) ≡ true
number_no_feed (unsigned n) = decimal_no_feed n
number_no_feed (negative (pos n)) = decimal_no_feed n
number_no_feed (negative (negsuc n)) = decimal_no_feed (suc n)
number_no_feed (float x) = refl

-- ---- strings

-- what stands for each of the bytes below this one has no line feed
abbrev none_below : ℕ → Bool
none_below zero = true
none_below (suc n) = has_no_feed (escape_byte n) && none_below n

-- what stands for each of the bytes up to the last one that has an escape has none
low_bytes : none_below 93 ≡ true
unfolding escape_byte
low_bytes = refl

-- what stands for a byte below a limit has none, where none of those below the limit has
low_no_feed : (limit byte : ℕ) → none_below limit ≡ true → byte < limit → has_no_feed (escape_byte byte) ≡ true
low_no_feed zero byte none below = absurd (omega arith)
low_no_feed (suc limit) byte none below =
    let parts = and_parts (has_no_feed (escape_byte limit)) (none_below limit) none in
    elim (cases_eq byte limit) [
      | inl same ↦ rw same parts.0
      | inr other ↦ low_no_feed limit byte parts.1 (omega arith)
    ]

-- what stands for any byte has none
byte_no_feed : (byte : ℕ) → has_no_feed (escape_byte byte) ≡ true
byte_no_feed byte =
    elim (cases_lt byte 93) [
      | inl low ↦ low_no_feed 93 byte low_bytes low
      | inr high ↦
          let own : escape_byte byte ≡ byte ∷ [] =
          escape_byte_plain byte (λ is. omega (arith, high)) (λ is. omega (arith, high)) (omega (arith, high)) in
          rw (own, ne_eqb byte 10 (λ is. omega (arith, high))) refl
    ]

-- the text of a string's bytes has none
escape_no_feed : (bytes : List ℕ) → has_no_feed (escape bytes) ≡ true
escape_no_feed [] = refl
escape_no_feed (byte ∷ bytes) = both (escape_byte byte) (escape bytes) (byte_no_feed byte) (escape_no_feed bytes)

-- the text of a string has none
quoted_no_feed : (bytes : List ℕ) → has_no_feed (quoted bytes) ≡ true
quoted_no_feed bytes = both (escape bytes) (34 ∷ []) (escape_no_feed bytes) refl

-- ---- values

-- a comma, where something stands before, has none
comma_no_feed : (later : Bool) → has_no_feed (comma_if later) ≡ true
comma_no_feed true = refl
comma_no_feed false = refl

mutual
  -- the text of a value has none
  pub text_no_feed : (value : Data) → has_no_feed (compact_text value) ≡ true
  text_no_feed null = refl
  text_no_feed (boolean true) = refl
  text_no_feed (boolean false) = refl
  text_no_feed (number n) = number_no_feed n
  text_no_feed (string bytes) = quoted_no_feed bytes
  text_no_feed (array items) = items_no_feed false items
  text_no_feed (object members) = members_no_feed false members

  -- the text of items has none
  items_no_feed : (later : Bool) (items : Items) → has_no_feed (items_text later items) ≡ true
  items_no_feed later no_items = refl
  items_no_feed later (item value items) =
      both (comma_if later) _ (comma_no_feed later)
      (both (compact_text value) _ (text_no_feed value) (items_no_feed true items))

  -- the text of members has none
  members_no_feed : (later : Bool) (members : Members) → has_no_feed (members_text later members) ≡ true
  members_no_feed later no_members = refl
  members_no_feed later (member key value members) =
      both (comma_if later) _ (comma_no_feed later)
      (both (quoted key) _ (quoted_no_feed key)
      (both (compact_text value) _ (text_no_feed value) (members_no_feed true members)))
