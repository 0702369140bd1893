-- The text of a path: its parts with dots between.
use Rattle.std.specs.Prelude.{ℕ, List, [], ◌∷◌, ◌++◌, ◌==◌, map, decimal, if◌then◌else◌}
use Rattle.std.specs.List.{join_with_byte}
use Rattle.mtp_json.specs.declared.path.PathPart.{PathPart}
use Rattle.mtp_json.specs.declared.path.PathPart.TheVariants.{Key, Place}

-- a key's own bytes, and a place in decimal
abbrev pub part_text : PathPart → List ℕ
part_text (Key name) = name
part_text (Place place) = decimal place

-- the texts of the parts with a dot (46) between neighbours
abbrev pub path_text : List PathPart → List ℕ
path_text parts = join_with_byte 46 (map part_text parts)

-- a text with a dot behind it, unless it is the text of no part
abbrev pub with_dot : ℕ → List ℕ → List ℕ
with_dot count text = if count == 0 then text else text ++ 46 ∷ []
