-- What is written is read back: the steps that every form shares.
use Rattle.std.proofs.Common.{◌≡◌, ◌≤◌, ℕ, suc, ℤ, pos, negsuc, Bool, true, false, List, [], ◌∷◌, length, map, Some, Ok, refl, ap, arith}
use Rattle.std.proofs.lemmas.Bool.{and_parts}
use Rattle.std.specs.List.{list_all}
use Rattle.serde_json.specs.Data.{Data, depth, items_depth}
use Rattle.serde_json.specs.Events.{items_len}
use Rattle.serde_json.specs.Find.{as_integer, is_float, of_integer}
use Rattle.serde_json.specs.View.{items_of}
use Rattle.serde_json.specs.Written.{has_float, items_have_float}
use Rattle.mtp_codes.specs.declared.value.Value.{Value}
use Rattle.mtp_codes.specs.declared.value.Value.TheVariants.{Whole, Bit, Text}
use Rattle.mtp_json.specs.Form.{each}
use Rattle.mtp_json.specs.Leaf.{scalar}
use Rattle.mtp_json.specs.ReadResult.{ReadResult}
use Rattle.mtp_json.specs.Written.{is_scalar, scalar_data}

-- a whole number that was written is read as itself
pub whole_again : (number : ℤ) → as_integer (of_integer number) ≡ Some number
whole_again (pos n) = refl
whole_again (negsuc n) = refl

-- items that are each read back are read back as a list
pub each_again : {A : Type 0} (form : Data → ReadResult A) (written : A → Data) (test : A → Bool) (again : (x : A)
    → test x ≡ true → form (written x) ≡ Ok x) (place : ℕ) (xs : List A) → list_all test xs ≡ true
    → each form place (items_of (map written xs)) ≡ Ok xs
unfolding each
each_again form written test again place [] all = refl
each_again form written test again place (x ∷ xs) all =
    let both = and_parts (test x) (list_all test xs) all in
    rw (again x both.0, each_again form written test again (suc place) xs both.1) refl

-- a written list is as long as what was written
pub len_again : {A : Type 0} (written : A → Data) (xs : List A) → items_len (items_of (map written xs)) ≡ length xs
len_again written [] = refl
len_again written (x ∷ xs) = ap suc (len_again written xs)

-- a written list nests no deeper than its items
pub items_depth_below : {A : Type 0} (written : A → Data) (limit : ℕ) → ((x : A) → depth (written x) ≤ limit)
    → (xs : List A) → items_depth (items_of (map written xs)) ≤ limit
items_depth_below written limit each_below [] = omega arith
items_depth_below written limit each_below (x ∷ xs) =
    omega (arith, each_below x, items_depth_below written limit each_below xs)

-- a whole number is written as no float
pub of_integer_whole : (z : ℤ) → is_float (of_integer z) ≡ false
of_integer_whole (pos n) = refl
of_integer_whole (negsuc n) = refl

-- a written list has no float where no item has one
pub items_whole : {A : Type 0} (written : A → Data) → ((x : A) → has_float (written x) ≡ false) → (xs : List A)
    → items_have_float (items_of (map written xs)) ≡ false
items_whole written whole [] = refl
items_whole written whole (x ∷ xs) = rw (whole x, items_whole written whole xs) refl

-- a value of a variable or of a parameter is read back
pub scalar_again : (value : Value) → is_scalar value ≡ true → scalar (scalar_data value) ≡ Ok value
scalar_again (Whole z) fit = rw (whole_again z, fit) refl
scalar_again (Bit bit) fit = refl
scalar_again (Text bytes) fit = rw fit refl
