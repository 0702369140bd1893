-- The values of flat lines.
use Rattle.std.specs.Prelude.{ℕ, ◌^◌, nat_lt, ℤ, pos, negsuc, List, [], ◌∷◌, ◌++◌, Bool, true, false, codes}
use Rattle.std.specs.Fmt.{signed_decimal}
use Rattle.std.specs.List.{list_all}
use Rattle.json.specs.Run.{is_plain}
use Rattle.serde_json.specs.Data.{Data, boolean, number, string}
use Rattle.serde_json.specs.Find.{of_integer}
use Rattle.pol_lines.specs.declared.leaf.Leaf.{Leaf}
use Rattle.pol_lines.specs.declared.leaf.Leaf.TheVariants.{Text, Whole, Bit}

-- a value as a line writes it
abbrev pub leaf_piece : Leaf → List ℕ
leaf_piece (Text bytes) = 34 ∷ (bytes.now ++ 34 ∷ [])
leaf_piece (Whole z) = signed_decimal z
leaf_piece (Bit true) = codes "true"
leaf_piece (Bit false) = codes "false"

-- what a value means
abbrev pub leaf_data : Leaf → Data
leaf_data (Text bytes) = string bytes.now
leaf_data (Whole z) = number (of_integer z)
leaf_data (Bit bit) = boolean bit

-- a number of at most 18 digits
abbrev pub is_few_digits : ℤ → Bool
is_few_digits (pos n) = nat_lt n (10 ^ 18)
is_few_digits (negsuc n) = nat_lt n (10 ^ 18)

-- no byte of a text has to be escaped, and a number has at most 18 digits
abbrev pub is_leaf_in_range : Leaf → Bool
is_leaf_in_range (Text bytes) = list_all is_plain bytes.now
is_leaf_in_range (Whole z) = is_few_digits z
is_leaf_in_range (Bit bit) = true
