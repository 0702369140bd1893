-- What names a build is text, since each of its bytes is ASCII.
use Rattle.std.proofs.Common.{◌≡◌, ℕ, zero, suc, ◌<◌, true, List, [], ◌∷◌, arith, slice_index}
use Rattle.std.specs.Prelude.{IsTrue}
use Rattle.std.specs.List.{list_all}
use Rattle.std.specs.Str.{IsUtf8}
use Rattle.std.proofs.lemmas.Str.{IsUtf8-from_ascii}
use Rattle.std.proofs.lemmas.Bool.{and_parts}
use Rattle.std.proofs.lemmas.Bool.Decides.{nat_tests}
use Rattle.pol_ledger.specs.Builds.{is_build, is_printable}

-- a printable byte is below 128
printable_is_ascii : (byte : ℕ) → is_printable byte ≡ true → byte < 128
printable_is_ascii byte test = grind (arith, nat_tests)

-- and so is each of several
printable_are_ascii : (bytes : List ℕ) → list_all is_printable bytes ≡ true → (i : ℕ) → slice_index bytes i < 128
printable_are_ascii [] test i = omega arith
printable_are_ascii (byte ∷ bytes) test zero =
    printable_is_ascii byte (and_parts (is_printable byte) (list_all is_printable bytes) test).0
printable_are_ascii (byte ∷ bytes) test (suc i) =
    printable_are_ascii bytes (and_parts (is_printable byte) (list_all is_printable bytes) test).1 i

-- so what names a build is text
pub begun_printable : (build : List ℕ) → IsTrue (is_build build) → IsUtf8 build
begun_printable build form =
    IsUtf8-from_ascii build (printable_are_ascii build (and_parts _ (list_all is_printable build) form).1)
