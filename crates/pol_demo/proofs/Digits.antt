-- Names of a letter and a number.
use Rattle.std.proofs.Common.{ℕ, ◌≡◌, ◌≤◌, ◌<◌, ◌^◌, List, [], ◌∷◌, ◌++◌, length, length-append, true, IsTrue, decimal}
use Rattle.std.proofs.Common.{arith}
use Rattle.std.specs.List.{list_all}
use Rattle.std.proofs.lemmas.Bool.Decides.{nat_tests}
use Rattle.std.proofs.lemmas.Fmt.{decimal_is_IsNumeral, length-decimal-le}
use Rattle.mtp_codes.specs.Names.{is_name, is_name_byte}
use Rattle.mtp_codes.proofs.Names.{digits_in_name}
use Rattle.pol_demo.specs.Names.{numbered_name}

-- a short list of bytes that may stand in a name is one
few_bytes : (bytes : List ℕ) → 0 < length bytes → length bytes ≤ 32 → list_all is_name_byte bytes ≡ true →
    IsTrue (is_name bytes)
few_bytes bytes some few all = rw all (grind (arith, nat_tests, some, few))

-- the letter before the digits
letter_before : (letter digits : List ℕ) → IsTrue (is_name letter) → length letter ≡ 1 →
    list_all is_name_byte digits ≡ true → list_all is_name_byte (letter ++ digits) ≡ true
letter_before (byte ∷ []) digits named short all = rw all named
letter_before [] digits named short all = absurd (omega arith)
letter_before (byte ∷ next ∷ bytes) digits named short all = absurd (omega arith)

-- a letter and a number below 256 make a name
pub numbered_is_name : (letter : List ℕ) (number : ℕ) → IsTrue (is_name letter) → length letter ≡ 1 → number < 2 ^ 8 →
    IsTrue (is_name (numbered_name letter number))
numbered_is_name letter number named short small =
    let digits = digits_in_name (decimal number) (decimal_is_IsNumeral number (omega arith)).0.1 in
    let few = length-decimal-le 3 number (omega arith) (omega arith) (omega arith) in
    let size = length-append letter (decimal number) in
    few_bytes (numbered_name letter number) (omega (arith, short, size)) (omega (arith, short, size, few))
    (letter_before letter (decimal number) named short digits)
