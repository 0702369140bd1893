-- Members of any key, of whose values only numbers, texts and truth values are kept.
use Rattle.std.specs.Prelude.{◌≡◌, ℕ, List, ◌∷◌, [], ◌++◌, Option, Some, None, true, Ok, ⊤}
use Rattle.std.specs.List.{list_all}
use Rattle.json.specs.Run.{is_plain}
use Rattle.serde_json.specs.Data.{Data, Num, null, boolean, number, string, array, object, unsigned, negative, float}
use Rattle.serde_json.specs.Data.{Members, no_members, member, put}
use Rattle.serde_json.specs.Find.{of_integer}
use Rattle.mtp_json.specs.ReadResult.{ReadResult}
use Rattle.pol_lines.specs.declared.parts.Held.{Held}
use Rattle.pol_lines.specs.declared.parts.Held.TheVariants.{Text, Whole, Bit, Other}
use Rattle.pol_lines.specs.declared.parts.Part.{Part}
use Rattle.pol_lines.specs.Begins.{Begins, Opens, OpensList}
use Rattle.pol_lines.specs.Keys.{quoted}

-- what is kept, as a value; null stands for what isn't
abbrev pub held_data : Held → Data
held_data (Text bytes) = string bytes.now
held_data (Whole z) = number (of_integer z)
held_data (Bit bit) = boolean bit
held_data Other = null

-- a number, if it is whole
abbrev pub simple_number : Num → Data
simple_number (unsigned n) = number (unsigned n)
simple_number (negative z) = number (negative z)
simple_number (float x) = null

-- a whole number, a text, a truth value or an object; null for all others
abbrev pub simple : Data → Data
simple null = null
simple (boolean bit) = boolean bit
simple (number held) = simple_number held
simple (string bytes) = string bytes
simple (array values) = null
simple (object found) = object found

-- the members with what is kept of each value: whole numbers, texts, truth values and objects; null for all others
abbrev pub simple_members : Members → Members
simple_members no_members = no_members
simple_members (member key value others) = member key (simple value) (simple_members others)

-- the parts go in one after another, so the last value of a key stays
abbrev pub put_parts : List Part → Members → Members
put_parts [] found = found
put_parts (part ∷ parts) found = put_parts parts (put part.key.now (held_data part.held) found)

-- what is kept of an object
abbrev pub parts_data : List Part → Data
parts_data parts = object (put_parts parts no_members)

-- a number that was read is no whole one
abbrev pub IsFraction : Option Num → Type 0
IsFraction None = ⊥
IsFraction (Some (unsigned n)) = ⊥
IsFraction (Some (negative z)) = ⊥
IsFraction (Some (float x)) = Unit {0}

-- a text begins with a value of which this is kept
pub record BeginsHeld (text : List ℕ) (kept : Data) (rest : List ℕ) : Type 0 where
  pub value : Data
  pub begins : Begins 1 text value rest
  pub keeps : simple value ≡ kept

-- a text begins with a name in quotes and a value
pub record BeginsPart (text : List ℕ) (part : Part) (rest : List ℕ) : Type 0 where
  pub inner : List ℕ
  pub piece : text ≡ quoted part.key.now ++ inner
  pub plain : list_all is_plain part.key.now ≡ true
  pub held : BeginsHeld inner (held_data part.held) rest

-- a text begins with a brace and members of which these parts are kept, each with a comma
pub record HoldsParts (text : List ℕ) (parts : List Part) (rest : List ℕ) : Type 0 where
  pub found : Members
  pub opens : Opens 1 text found rest
  pub keeps : simple_members found ≡ put_parts parts no_members

-- a text begins with an object of which these parts are kept
pub record IsOfParts (text : List ℕ) (parts : List Part) (rest : List ℕ) : Type 0 where
  pub found : Members
  pub begins : Begins 2 text (object found) rest
  pub keeps : simple_members found ≡ put_parts parts no_members

-- any value is an item
abbrev pub any_item : Data → ReadResult ⊤
any_item value = Ok tt

-- a text begins with a bracket and items, each with a comma
pub record OpensItems (text rest : List ℕ) : Type 0 where
  pub found : List ⊤
  pub opens : OpensList any_item 0 text found rest
