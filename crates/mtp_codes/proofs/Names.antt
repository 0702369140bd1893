-- Names of the same bytes are one name, and digits may stand in a name.
use Rattle.std.proofs.Common.{◌≡◌, ℕ, ◌≤◌, Bool, true, false, List, [], ◌∷◌, take, refl, sym, ap, ◌∙◌, arith}
use Rattle.std.specs.Int.{IsInRange}
use Rattle.std.specs.List.{list_all}
use Rattle.std.specs.Str.{bytes_eq}
use Rattle.std.specs.Str.Parse.{AllDigits}
use Rattle.std.proofs.lemmas.Bool.Decides.{nat_tests, same_from_decides}
use Rattle.std.proofs.lemmas.Slice.Eq.{bytes_eq-Decides}
use Rattle.std.proofs.lemmas.Str.Parse.{digit_from_value}
use Rattle.mtp_codes.specs.Names.{is_name_byte, IsKeptName}
use Rattle.mtp_codes.specs.Padded.{padded, padded-used}

-- names that compare as equal are one
pub same_true : (one other : List ℕ) → bytes_eq one other ≡ true → one ≡ other
same_true one other = (bytes_eq-Decides one other).0

-- a name is equal to itself
pub same_refl : (name : List ℕ) → bytes_eq name name ≡ true
same_refl name = (bytes_eq-Decides name name).1 refl

-- and so are names that are one
pub same_name_is : (one other : List ℕ) → one ≡ other → bytes_eq one other ≡ true
same_name_is one other = (bytes_eq-Decides one other).1

-- names that take as many bytes as each other are one exactly where all the bytes that keep them are the same
pub kept_same : (one other : List ℕ) (first second : ℕ) → IsKeptName one first → IsKeptName other second
    → first ≡ second → bytes_eq one other ≡ bytes_eq (take first one) (take second other)
kept_same one other first second kept beside long =
    same_from_decides (bytes_eq one other) (bytes_eq (take first one) (take second other)) (bytes_eq-Decides one other)
    (there, back)
  where
    there : bytes_eq (take first one) (take second other) ≡ true → one ≡ other
    there same =
        sym (padded-used 32 one first kept.padding)
        ∙ ap (padded 32) (same_true (take first one) (take second other) same)
        ∙ padded-used 32 other second beside.padding

    back : one ≡ other → bytes_eq (take first one) (take second other) ≡ true
    back same =
        same_name_is (take first one) (take second other)
        (ap (λ long. take long one) long ∙ ap (take second) same)

-- a name that isn't another's is not that other's
pub apart_back : (one other : List ℕ) → bytes_eq one other ≡ false → bytes_eq other one ≡ false
apart_back one other apart = back (bytes_eq other one) refl
  where
    back : (same : Bool) → bytes_eq other one ≡ same → bytes_eq other one ≡ false
    back false is = is
    back true is =
        let clash : true ≡ false = sym (same_name_is one other (sym (same_true other one is))) ∙ apart in cc

-- a digit may stand in a name
digit_in_name : (byte : ℕ) → IsInRange 48 57 byte → is_name_byte byte ≡ true
digit_in_name byte digit =
    let low : 48 ≤ byte = digit.0 in
    let high : byte ≤ 57 = digit.1 in
    grind (arith, nat_tests, low, high)

-- and so may digits
pub digits_in_name : (bytes : List ℕ) → AllDigits 10 bytes → list_all is_name_byte bytes ≡ true
digits_in_name [] digits = refl
digits_in_name (byte ∷ bytes) digits =
    rw (digit_in_name byte (digit_from_value byte digits.0), digits_in_name bytes digits.1) refl
