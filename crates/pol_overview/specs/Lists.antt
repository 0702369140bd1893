-- Names and lists as JSON.
use Rattle.std.specs.Prelude.{ℕ, List, map, Option, Some, None}
use Rattle.serde_json.specs.Data.{Data, null, string, array}
use Rattle.serde_json.specs.View.{items_of}

-- a name, or null where there is none
abbrev pub name_or_null : Option (List ℕ) → Data
name_or_null None = null
name_or_null (Some name) = string name

-- what is written of each of these, in order
abbrev pub each_data : {A : Type 0} → (A → Data) → List A → Data
each_data told all = array (items_of (map told all))

-- names as a list of texts
abbrev pub names_data : List (List ℕ) → Data
names_data names = each_data string names
