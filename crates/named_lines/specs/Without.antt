-- A value without what is at a key.
use Rattle.std.specs.Prelude.{ℕ, List, if◌then◌else◌}
use Rattle.std.specs.Str.{bytes_eq}
use Rattle.serde_json.specs.Data.{Data, null, boolean, number, string, array, object, Members, no_members, member}

-- the members with other keys than this one
abbrev pub without_member : List ℕ → Members → Members
without_member key no_members = no_members
without_member key (member name value others) =
    if bytes_eq key name then without_member key others else member name value (without_member key others)

-- an object without what is at a key; a value that is no object stays as it is
abbrev pub without : List ℕ → Data → Data
without key null = null
without key (boolean bit) = boolean bit
without key (number held) = number held
without key (string bytes) = string bytes
without key (array values) = array values
without key (object found) = object (without_member key found)
