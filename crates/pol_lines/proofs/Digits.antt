-- What the digits at the front of a text write.
use Rattle.std.proofs.Common.{◌≡◌, ℕ, ◌+◌, ◌-◌, ◌*◌, ◌<◌, ◌≤◌, ◌^◌, List, ◌++◌, length, take, drop, true, get_or, arith}
use Rattle.std.proofs.Common.{rules, sym, ◌∙◌, length-drop}
use Rattle.std.specs.Fmt.{decimal}
use Rattle.std.proofs.lemmas.Fmt.{decimal-digits_value}
use Rattle.std.proofs.lemmas.List.{take-append-drop, take_all}
use Rattle.std.proofs.lemmas.Grind.{common_steps}
use Rattle.std.proofs.lemmas.Int.Digits.{digits_value_more}
use Rattle.std.proofs.lemmas.Str.Parse.{IsNumeralModel, numerals_by_value, digits_value_short}
use Rattle.std.specs.Char.{is_ascii_digit, digit_value}
use Rattle.std.specs.List.{list_all}
use Rattle.std.specs.Str.Parse.{digits_value}

-- a numeral is a list of digits
pub numerals : IsNumeralModel (λ ds. list_all is_ascii_digit ds ≡ true) (digits_value 10)
numerals = numerals_by_value _ (search rules)

-- up to 17 digits write less than the 17th power of ten
pub few_digits_are_small : (text : List ℕ) (count : ℕ) → count < 18 → list_all is_ascii_digit (take count text) ≡ true
    → digits_value 10 (take count text) < 10 ^ 17
few_digits_are_small text count few digits =
    digits_value_short numerals (take count text) 17 digits (grind (arith, common_steps))

-- a digit's value is its distance from the digit 0
pub digit_is : (byte : ℕ) → is_ascii_digit byte ≡ true → digit_value byte ≡ byte - 48
digit_is byte is = grind (arith, common_steps, is)

-- one more digit
pub one_more : (text : List ℕ) (count byte : ℕ) → count < length text → byte ≡ get_or text count 0
    → is_ascii_digit byte ≡ true
    → digits_value 10 (take (count + 1) text) ≡ digits_value 10 (take count text) * 10 + (byte - 48)
one_more text count byte within here is =
    grind (arith, digits_value_more 10 text count within, digit_is byte is, here)

-- digits with no zero in front are written so
pub written : (text : List ℕ) (count : ℕ) → count ≤ length text → 0 < count → count ≤ 18
    → list_all is_ascii_digit (take count text) ≡ true
    → (get_or text 0 0 ≡ 48 → count ≤ 1) → text ≡ decimal (digits_value 10 (take count text)) ++ take
    (length text - count) (drop count text)
written text count within some few digits leading =
    let front = take count text in
    let long : length front ≡ count = grind (arith, common_steps) in
    let value : digits_value 10 front < 10 ^ 18 = digits_value_short numerals front 18 digits (omega arith) in
    let first : get_or front 0 0 ≡ get_or text 0 0 = grind (arith, common_steps) in
    let same : decimal (digits_value 10 front) ≡ front = decimal-digits_value numerals front digits (omega arith)
    (λ zero. omega (arith, leading (sym first ∙ zero))) (omega arith) in
    let rest : take (length text - count) (drop count text) ≡ drop count text =
    take_all _ _ (omega (arith, length-drop count text)) in
    rw (same, rest) (sym (take-append-drop count text))

-- up to 18 digits write less than the 18th power of ten
pub at_most_eighteen : (text : List ℕ) (count : ℕ) → count ≤ 18 → list_all is_ascii_digit (take count text) ≡ true
    → digits_value 10 (take count text) < 10 ^ 18
at_most_eighteen text count few digits = digits_value_short numerals (take count text) 18 digits
    (grind (arith, common_steps))
