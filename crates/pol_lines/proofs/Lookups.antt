-- What is at a key of an object in which members were put one after another.
use Rattle.std.proofs.Common.{◌≡◌, ℕ, ◌+◌, ◌<◌, List, [], ◌∷◌, ◌++◌, length, take, get_or, true, Some, Ok, Ordering}
use Rattle.std.proofs.Common.{Less, Equal, Greater, refl, sym, ap, ◌∙◌, None, false, arith}
use Rattle.std.proofs.lemmas.Bool.{and_parts}
use Rattle.std.proofs.lemmas.List.{take_more}
use Rattle.std.proofs.lemmas.Slice.Eq.{bytes_eq-Decides}
use Rattle.std.specs.Str.{bytes_eq}
use Rattle.std.specs.Ordering.{nat_cmp, match_ordering}
use Rattle.std.specs.List.{list_all}
use Rattle.std.specs.Cmp.Lexicographic.{slice_cmp}
use Rattle.serde_json.specs.Data.{Data, Members, member, no_members, put}
use Rattle.serde_json.specs.Find.{get, get_member}
use Rattle.serde_json.proofs.Views.{get_member-put, get_member-put_other}
use Rattle.mtp_json.specs.Form.{all_listed, is_listed, only_keys}
use Rattle.mtp_json.specs.Leaf.{meaning_of}
use Rattle.pol_lines.specs.declared.flat.Member.{Member}
use Rattle.pol_lines.specs.declared.key.Key.{Key}
use Rattle.pol_lines.specs.declared.key.Key.TheVariants.{At, Ev, Tag, Name, Value, Service, Batch, By, Ticket}
use Rattle.pol_lines.specs.declared.key.Key.TheVariants.{StateCur, CommandEn, CommandOp, Mode, Src, ProcedureCur}
use Rattle.pol_lines.specs.declared.key.Key.TheVariants.{Role, TypeName, Version, Step, Procedure, Recipe, Kind, Min, Max}
use Rattle.pol_lines.specs.declared.key.Key.TheVariants.{Number, IsDefault, SelfCompleting, Test, Op}
use Rattle.pol_lines.specs.Flat.{flat_data, put_all}
use Rattle.pol_lines.specs.Keys.{IsNoKey, key_rows, key_text}
use Rattle.pol_lines.specs.Leaves.{leaf_data}

-- ---- keys by their texts

-- a text names one key
key_by_text : (key : Key) → meaning_of (key_text key) key_rows ≡ Some key
key_by_text At = refl
key_by_text Ev = refl
key_by_text Tag = refl
key_by_text Name = refl
key_by_text Value = refl
key_by_text Service = refl
key_by_text Batch = refl
key_by_text By = refl
key_by_text Ticket = refl
key_by_text StateCur = refl
key_by_text CommandEn = refl
key_by_text CommandOp = refl
key_by_text Mode = refl
key_by_text Src = refl
key_by_text ProcedureCur = refl
key_by_text Role = refl
key_by_text TypeName = refl
key_by_text Version = refl
key_by_text Step = refl
key_by_text Procedure = refl
key_by_text Recipe = refl
key_by_text Kind = refl
key_by_text Min = refl
key_by_text Max = refl
key_by_text Number = refl
key_by_text IsDefault = refl
key_by_text SelfCompleting = refl
key_by_text Test = refl
key_by_text Op = refl

-- keys of one text are one key
same_text_same_key : (key other : Key) → key_text key ≡ key_text other → key ≡ other
same_text_same_key key other same =
    let both : Some key ≡ Some other = sym (key_by_text key) ∙ ap (λ text. meaning_of text key_rows) same
    ∙ key_by_text other in cc

-- a name that is no key's is no key's text
pub key_is_no_other : (key : Key) (name : List ℕ) → IsNoKey name → name ≡ key_text key → ⊥
key_is_no_other key name none same =
    let both : None ≡ Some key = sym none ∙ ap (λ text. meaning_of text key_rows) same ∙ key_by_text key in cc

-- ---- one member after another

-- what is put after other members is put into what they gave
pub put_all_append : (members others : List Member) (found : Members)
    → put_all (members ++ others) found ≡ put_all others (put_all members found)
put_all_append [] others found = refl
put_all_append (first ∷ members) others found = put_all_append members others
    (put (key_text first.key) (leaf_data first.leaf) found)

-- the key of the member put last has its value
pub found_here : (members : List Member) (place : ℕ) (default : Member) (key : Key) → place < length members
    → (get_or members place default).key ≡ key
    → get (key_text key) (flat_data (take (place + 1) members)) ≡ Some (leaf_data (get_or members place default).leaf)
found_here members place default key within is =
    let last = get_or members place default in
    let front = take place members in
    rw (take_more members place default within, put_all_append front (last ∷ []) no_members, is)
    (get_member-put (key_text key) (leaf_data last.leaf) (put_all front no_members))

-- another key has the value that it had
pub found_before : (members : List Member) (place : ℕ) (default : Member) (key : Key) → place < length members
    → ((get_or members place default).key ≡ key → ⊥)
    → get (key_text key) (flat_data (take (place + 1) members)) ≡ get (key_text key) (flat_data (take place members))
found_before members place default key within other =
    let last = get_or members place default in
    let front = take place members in
    rw (take_more members place default within, put_all_append front (last ∷ []) no_members)
    (get_member-put_other (key_text key) (key_text last.key) (leaf_data last.leaf) (put_all front no_members)
    (λ same. other (sym (same_text_same_key key last.key same))))

-- what is put at a key leaves the others
pub put_aside : (key other : List ℕ) (value : Data) (members : Members) → bytes_eq key other ≡ false
    → get_member key (put other value members) ≡ get_member key members
put_aside key other value members differs =
    get_member-put_other key other value members (λ same. grind (arith, bytes_eq-Decides key other, same, differs))

-- ---- the keys of an object

-- a key that may be there, put before, at or behind a member whose key may
listed_put_at : (order : Ordering) (keys name key : List ℕ) (value held : Data) (members : Members)
    → is_listed keys name ≡ true
    → is_listed keys key ≡ true → all_listed keys members ≡ true → all_listed keys (put name value members) ≡ true
    → all_listed keys (match_ordering order (member name value (member key held members)) (member key value members)
    (member key held (put name value members))) ≡ true
listed_put_at Less keys name key value held rest here first others later = rw (here, first, others) refl
listed_put_at Equal keys name key value held rest here first others later = rw (first, others) refl
listed_put_at Greater keys name key value held rest here first others later = rw (first, later) refl

-- a key that may be there, put among others that may
pub listed_put : (keys name : List ℕ) (value : Data) (members : Members) → is_listed keys name ≡ true
    → all_listed keys members ≡ true
    → all_listed keys (put name value members) ≡ true
listed_put keys name value no_members here others = rw here refl
listed_put keys name value (member key held members) here others =
    let parts = and_parts (is_listed keys key) (all_listed keys members) others in
    listed_put_at (slice_cmp nat_cmp name key) keys name key value held members here parts.0 parts.1
    (listed_put keys name value members here parts.1)

-- keys that may be there, put one after another
pub listed_put_all : (keys : List ℕ) (members : List Member) (found : Members)
    → list_all (λ each. is_listed keys (key_text each.key)) members ≡ true
    → all_listed keys found ≡ true → all_listed keys (put_all members found) ≡ true
listed_put_all keys [] found here others = others
listed_put_all keys (first ∷ members) found here others =
    let parts = and_parts (is_listed keys (key_text first.key))
    (list_all (λ each. is_listed keys (key_text each.key)) members) here in
    listed_put_all keys members (put (key_text first.key) (leaf_data first.leaf) found) parts.1
    (listed_put keys (key_text first.key) (leaf_data first.leaf) found parts.0 others)

-- an object of members whose keys may all be there has no other key
pub only_listed : (keys : List ℕ) (members : List Member) → list_all
    (λ each. is_listed keys (key_text each.key)) members ≡ true
    → only_keys keys (flat_data members) ≡ Ok tt
only_listed keys members listed = rw (listed_put_all keys members no_members listed refl) refl
