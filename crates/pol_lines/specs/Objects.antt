-- Objects read member by member: flat members, and between them members whose values are lists and objects.
use Rattle.std.specs.Prelude.{◌≡◌, ℕ, suc, List, [], ◌∷◌, true, length, Option, Some, None, option_map, Ok}
use Rattle.std.specs.List.{list_all}
use Rattle.json.specs.Run.{is_plain}
use Rattle.serde_json.specs.Data.{Data, Items, Members, array, no_members, object}
use Rattle.serde_json.specs.Events.{items_len}
use Rattle.serde_json.specs.Find.{get_member}
use Rattle.mtp_json.specs.Form.{all_listed, nested_if_present, each, is_listed}
use Rattle.mtp_json.specs.Leaf.{meaning_of}
use Rattle.mtp_json.specs.ReadResult.{ReadResult}
use Rattle.pol_lines.specs.declared.flat.Member.{Member}
use Rattle.pol_lines.specs.declared.key.Key.{Key}
use Rattle.pol_lines.specs.declared.objects.Cut.{Cut}
use Rattle.pol_lines.specs.declared.objects.Cut.TheVariants.{More, End}
use Rattle.pol_lines.specs.Begins.{Begins, Opens}
use Rattle.pol_lines.specs.Flat.{put_all}
use Rattle.pol_lines.specs.Keys.{IsNoKey, key_text}

-- members that were put one after another: flat ones in this order, and others between them, of which the last comes
-- first here
pub record Among (members : List Member) (others : List (List ℕ × Data)) (found : Members) : Type 0 where
  pub flat : (key : Key) → get_member (key_text key) found ≡ get_member (key_text key) (put_all members no_members)
  pub other : (name : List ℕ) → IsNoKey name → get_member name found ≡ meaning_of name others
  pub listed : (keys : List ℕ) → list_all (λ each. is_listed keys (key_text each.key)) members ≡ true
      → list_all (λ row. is_listed keys row.0) others ≡ true → all_listed keys found ≡ true
  pub alone : others ≡ [] → found ≡ put_all members no_members

-- the form gives what was made, of each object of these members
abbrev pub Makes : {A : Type 0} → (Data → ReadResult A) → A → List Member → List (List ℕ × Data) → Type 0
Makes form made members others = (found : Members) → Among members others found → form (object found) ≡ Ok made

-- a text begins with a brace and these members, each with a comma
pub record Holds (deep : ℕ) (text : List ℕ) (members : List Member) (others : List (List ℕ × Data))
    (rest : List ℕ) : Type 0 where
  pub found : Members
  pub opens : Opens deep text found rest
  pub among : Among members others found

-- a text begins with an object of these members
pub record IsObject (deep : ℕ) (text : List ℕ) (members : List Member) (others : List (List ℕ × Data))
    (rest : List ℕ) : Type 0 where
  pub found : Members
  pub begins : Begins (suc deep) text (object found) rest
  pub among : Among members others found

-- the object that a text begins with has these members up to a cut
abbrev pub Stands : ℕ → List ℕ → List Member → List (List ℕ × Data) → Cut → Type 0
Stands deep text members others (More rest) = Holds deep text members others rest.now
Stands deep text members others (End rest) = IsObject deep text members others rest.now

-- the cut is at the end of the object, and nothing comes behind it
abbrev pub IsEnd : Cut → Type 0
IsEnd (More rest) = ⊥
IsEnd (End rest) = rest.now ≡ []

-- what comes from the end of a value on, where the cut lies behind the value
abbrev pub cut_piece : Cut → List ℕ
cut_piece (More rest) = 44 ∷ rest.now
cut_piece (End rest) = 125 ∷ rest.now

-- a name that needs no escape and is no key of a flat member
pub record IsOther (name : List ℕ) : Type 0 where
  pub plain : list_all is_plain name ≡ true
  pub no_key : IsNoKey name

-- the other members, with the value at a name if there is one
abbrev pub with_value : List ℕ → Option Data → List (List ℕ × Data) → List (List ℕ × Data)
with_value name None others = others
with_value name (Some value) others = (name, value) ∷ others

-- between two cuts is a value at a name, or nothing
abbrev pub Passes : ℕ → List ℕ → Option Data → Cut → Cut → Type 0
Passes deep name value before after =
    (text : List ℕ) (members : List Member) (others : List (List ℕ × Data))
    → Stands deep text members others before → Stands deep text members (with_value name value others) after

-- a list, of each item of which the form gives what was found; or no list, and nothing was found
abbrev pub GivesEach : {A : Type 0} → (Data → ReadResult A) → List A → Option Items → Type 0
GivesEach form found None = found ≡ []
GivesEach form found (Some values) = (each form 0 values ≡ Ok found) × (items_len values ≡ length found)

-- between two cuts is a list at a name, of each item of which the form gives what was found; or nothing
pub record PassesList {A : Type 0} (form : Data → ReadResult A) (deep : ℕ) (name : List ℕ) (found : List A)
    (before after : Cut) : Type 0 where
  pub values : Option Items
  pub gives : GivesEach form found values
  pub passes : Passes deep name (option_map array values) before after

-- between two cuts is a value at a name, of which the form gives what was found; or nothing
pub record PassesValue {A : Type 0} (form : Data → ReadResult A) (deep : ℕ) (name : List ℕ) (found : Option A)
    (before after : Cut) : Type 0 where
  pub value : Option Data
  pub gives : nested_if_present form value ≡ Ok found
  pub passes : Passes deep name value before after
