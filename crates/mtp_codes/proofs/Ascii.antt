-- A name is text, since each of its bytes is ASCII.
use Rattle.std.proofs.Common.{◌≡◌, ℕ, zero, suc, ◌<◌, ◌&&◌, true, List, [], ◌∷◌, length, arith, slice_index}
use Rattle.std.specs.Prelude.{nat_le}
use Rattle.std.specs.List.{list_all}
use Rattle.std.specs.Str.{IsUtf8}
use Rattle.std.proofs.lemmas.Str.{IsUtf8-from_ascii}
use Rattle.std.proofs.lemmas.Bool.{and_parts}
use Rattle.std.proofs.lemmas.Bool.Decides.{nat_tests}
use Rattle.mtp_codes.specs.Names.{is_name_byte, is_name}

-- a byte of a name is below 128
name_byte_is_ascii : (byte : ℕ) → is_name_byte byte ≡ true → byte < 128
name_byte_is_ascii byte test = grind (arith, nat_tests)

-- and so is each of several
name_bytes_are_ascii : (bytes : List ℕ) → list_all is_name_byte bytes ≡ true → (i : ℕ) → slice_index bytes i < 128
name_bytes_are_ascii [] test i = omega arith
name_bytes_are_ascii (byte ∷ bytes) test zero = name_byte_is_ascii byte
    (and_parts (is_name_byte byte) (list_all is_name_byte bytes) test).0
name_bytes_are_ascii (byte ∷ bytes) test (suc i) = name_bytes_are_ascii bytes
    (and_parts (is_name_byte byte) (list_all is_name_byte bytes) test).1 i

-- so a name is text
pub name_is_text : (bytes : List ℕ) → is_name bytes ≡ true → IsUtf8 bytes
name_is_text bytes test =
    IsUtf8-from_ascii bytes
    (name_bytes_are_ascii bytes (and_parts (nat_le 1 (length bytes) && nat_le (length bytes) 32)
    (list_all is_name_byte bytes) test).1)
