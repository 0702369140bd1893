-- Flat lines: an object of known keys, whose values are numbers, texts and truth values.
use Rattle.std.specs.Prelude.{ℕ, List, [], ◌∷◌, ◌++◌, Bool}
use Rattle.serde_json.specs.Data.{Data, object, Members, no_members, put}
use Rattle.pol_lines.specs.declared.flat.Member.{Member}
use Rattle.pol_lines.specs.Keys.{key_piece, key_text}
use Rattle.pol_lines.specs.Leaves.{is_leaf_in_range, leaf_data, leaf_piece}

-- a member as a line writes it
abbrev pub member_piece : Member → List ℕ
member_piece member = key_piece member.key ++ leaf_piece member.leaf

-- the value of a member is one that a flat line can hold
abbrev pub is_member_in_range : Member → Bool
is_member_in_range member = is_leaf_in_range member.leaf

-- the members go in one after another, so the last value of a key stays
abbrev pub put_all : List Member → Members → Members
put_all [] found = found
put_all (member ∷ members) found = put_all members (put (key_text member.key) (leaf_data member.leaf) found)

-- what the members mean
abbrev pub flat_data : List Member → Data
flat_data members = object (put_all members no_members)
