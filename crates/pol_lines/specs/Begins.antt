-- Texts that begin with what JSON writes of a value, with no space.
use Rattle.std.specs.Prelude.{◌≡◌, ℕ, ◌≤◌, List, [], ◌∷◌, ◌++◌, ◌-◌, length, drop, Some, Ok}
use Rattle.json.specs.Json as json
use Rattle.json.specs.Print.{print, token_text}
use Rattle.json.specs.Token as token
use Rattle.json.specs.Tree.{depth, HasNumbers, ItemsHaveNumbers, MembersHaveNumbers, items_depth, json_tokens}
use Rattle.json.specs.Tree.{members_depth}
use Rattle.serde_json.specs.Data.{Data, Items, Members, array, no_members}
use Rattle.serde_json.specs.Events.{items_len}
use Rattle.serde_json.specs.Read.{of_items, of_json, of_members}
use Rattle.mtp_json.specs.Form.{each}
use Rattle.mtp_json.specs.ReadResult.{ReadResult}

-- a text begins with what is written of a tree that nests at most this deep and means the value
pub record Begins (deep : ℕ) (text : List ℕ) (value : Data) (rest : List ℕ) : Type 0 where
  pub tree : json.Json
  pub piece : text ≡ print (json_tokens tree) ++ rest
  pub numbers : HasNumbers tree
  pub shallow : depth tree ≤ deep
  pub means : of_json tree ≡ Some value

-- a text begins with a value of which the form gives what was found
pub record Reads {A : Type 0} (form : Data → ReadResult A) (deep : ℕ) (text : List ℕ) (found : A)
    (rest : List ℕ) : Type 0 where
  pub value : Data
  pub begins : Begins deep text value rest
  pub gives : form value ≡ Ok found

-- a text begins with a piece and a value that closes an object, of which the form gives what was found; so many bytes
-- follow the object
pub record Closes {A : Type 0} (form : Data → ReadResult A) (deep : ℕ) (piece text : List ℕ) (found : A)
    (count : ℕ) : Type 0 where
  pub inner : List ℕ
  pub behind : List ℕ
  pub after : List ℕ
  pub begins : text ≡ piece ++ inner
  pub reads : Reads form deep inner found behind
  pub closing : behind ≡ 125 ∷ after
  pub counted : count ≡ length after

-- members as a line writes them, each with a comma
abbrev pub member_pieces : json.Members → List ℕ
member_pieces json.no_members = []
member_pieces (json.member key tree others) = (token_text (token.key key) ++ (print (json_tokens tree) ++ 44 ∷ [])) ++
    member_pieces others

-- a text begins with a brace and members, each with a comma, that give these members when they are put one after
-- another
pub record Opens (deep : ℕ) (text : List ℕ) (found : Members) (rest : List ℕ) : Type 0 where
  pub trees : json.Members
  pub piece : text ≡ 123 ∷ (member_pieces trees ++ rest)
  pub numbers : MembersHaveNumbers trees
  pub shallow : members_depth trees ≤ deep
  pub means : of_members trees no_members ≡ Some found

-- items as a line writes them, each with a comma
abbrev pub item_pieces : json.Items → List ℕ
item_pieces json.no_items = []
item_pieces (json.item tree others) = (print (json_tokens tree) ++ 44 ∷ []) ++ item_pieces others

-- a text begins with a bracket and items, each with a comma, of each of which the form gives what was found
pub record OpensList {A : Type 0} (form : Data → ReadResult A) (deep : ℕ) (text : List ℕ) (found : List A)
    (rest : List ℕ) : Type 0 where
  pub trees : json.Items
  pub piece : text ≡ 91 ∷ (item_pieces trees ++ rest)
  pub numbers : ItemsHaveNumbers trees
  pub shallow : items_depth trees ≤ deep
  pub values : Items
  pub means : of_items trees ≡ Some values
  pub gives : each form 0 values ≡ Ok found
  pub many : items_len values ≡ length found

-- a text begins with a list, of each item of which the form gives what was found
pub record ReadsList {A : Type 0} (form : Data → ReadResult A) (deep : ℕ) (text : List ℕ) (found : List A)
    (rest : List ℕ) : Type 0 where
  pub values : Items
  pub begins : Begins deep text (array values) rest
  pub gives : each form 0 values ≡ Ok found
  pub many : items_len values ≡ length found

-- the last bytes of a text, this many
abbrev pub last_of : ℕ → List ℕ → List ℕ
last_of count text = drop (length text - count) text
