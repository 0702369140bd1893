-- Objects member by member, and where they are cut.
use Rattle.std.proofs.Common.{◌≡◌, ℕ, suc, ◌≤◌, List, [], ◌∷◌, ◌++◌, Bool, true, false, Option, Some, None, Ok, refl}
use Rattle.std.proofs.Common.{sym, ap, ◌∙◌, arith, cond, subst, length}
use Rattle.std.proofs.lemmas.Bool.{and_parts}
use Rattle.std.proofs.lemmas.List.Folds.{list_all-append}
use Rattle.std.proofs.lemmas.Slice.Eq.{bytes_eq-Decides}
use Rattle.std.proofs.lemmas.Grind.{common_steps}
use Rattle.std.specs.Borrow.{Bor}
use Rattle.std.specs.Prelude.{option_map}
use Rattle.std.specs.Str.{bytes_eq}
use Rattle.std.specs.List.{list_all}
use Rattle.serde_json.specs.Data.{Data, Items, Members, array, no_members, object, put}
use Rattle.serde_json.specs.Events.{items_len}
use Rattle.serde_json.specs.Find.{get, get_member}
use Rattle.serde_json.proofs.Views.{get_member-put, get_member-put_other}
use Rattle.mtp_codes.specs.Numbers.{is_between}
use Rattle.mtp_json.specs.Form.{each_or_none, field, if_present, is_listed, present, present_or}
use Rattle.mtp_json.specs.Leaf.{items_in, meaning_of}
use Rattle.mtp_json.specs.ReadResult.{Finding, ReadResult, ◌>>=◌, here, under}
use Rattle.pol_lines.specs.declared.flat.Member.{Member}
use Rattle.pol_lines.specs.declared.key.Key.{Key}
use Rattle.pol_lines.specs.declared.objects.Cut.{Cut}
use Rattle.pol_lines.specs.declared.objects.Cut.TheVariants.{More, End}
use Rattle.pol_lines.specs.Begins.{Begins, Reads, last_of}
use Rattle.pol_lines.specs.Flat.{flat_data, is_member_in_range, member_piece, put_all}
use Rattle.pol_lines.specs.Keys.{IsNoKey, key_text, quoted}
use Rattle.pol_lines.specs.Leaves.{leaf_data, leaf_piece}
use Rattle.pol_lines.specs.Objects.{Among, GivesEach, Holds, IsObject, IsOther, Makes, Passes, cut_piece, with_value}
use Rattle.pol_lines.proofs.Lookups.{key_is_no_other, listed_put, put_all_append, put_aside}
use Rattle.pol_lines.proofs.Members.{begins_leaf, member_parts, plain_key}
use Rattle.pol_lines.proofs.Cutting.{reads_last}
use Rattle.pol_lines.proofs.Printed.{begins_object, begins_within, opens_more, opens_none}

-- ---- what is at a name

-- what is put at a name is found there, and else what was found before
found_put : (name key : List ℕ) (value : Data) (found : Members) (same : Bool) → bytes_eq name key ≡ same
    → get_member name (put key value found) ≡ cond same (Some value) (get_member name found)
found_put name key value found true is =
    let one : name ≡ key = grind (arith, bytes_eq-Decides name key, is) in rw one (get_member-put key value found)
found_put name key value found false is = put_aside name key value found is

-- the same found before, the same found after
found_alike : (name key : List ℕ) (value : Data) (found other : Members)
    → get_member name found ≡ get_member name other
    → get_member name (put key value found) ≡ get_member name (put key value other)
found_alike name key value found other alike =
    found_put name key value found (bytes_eq name key) refl
    ∙ ap (cond (bytes_eq name key) (Some value)) alike ∙ sym (found_put name key value other (bytes_eq name key) refl)

-- ---- members one after another

-- nothing was read
among_none : Among [] [] no_members
among_none = record {
  flat = λ key. refl;
  other = λ name no_key. refl;
  listed = λ keys flats rows. refl;
  alone = λ none. refl;
}

-- one more flat member
among_flat : (members : List Member) (others : List (List ℕ × Data)) (found : Members) (last : Member)
    → Among members others found
    → Among (members ++ last ∷ []) others (put (key_text last.key) (leaf_data last.leaf) found)
among_flat members others found last among =
    let name = key_text last.key in
    let value = leaf_data last.leaf in
    let before = put_all members no_members in
    let after = put_all_append members (last ∷ []) no_members in record {
      flat = λ key. found_alike (key_text key) name value found before (among.flat key)
          ∙ ap (get_member (key_text key)) (sym after);
      other = λ key no_key. get_member-put_other key name value found (key_is_no_other last.key key no_key)
          ∙ among.other key no_key;
      listed = λ keys flats rows.
          let parts = and_parts (list_all (λ each. is_listed keys (key_text each.key)) members)
          (list_all (λ each. is_listed keys (key_text each.key)) (last ∷ []))
          (sym (list_all-append (λ each. is_listed keys (key_text each.key)) members (last ∷ [])) ∙ flats) in
          let here = and_parts (is_listed keys name) true parts.1 in
          listed_put keys name value found here.0 (among.listed keys parts.0 rows);
      alone = λ none. ap (put name value) (among.alone none) ∙ sym after;
    }

-- one more of the others
among_other : (members : List Member) (others : List (List ℕ × Data)) (found : Members) (name : List ℕ) (value : Data)
    → IsNoKey name → Among members others found → Among members ((name, value) ∷ others) (put name value found)
among_other members others found name value no_key among = record {
  flat = λ key. get_member-put_other (key_text key) name value found
      (λ same. key_is_no_other key name no_key (sym same)) ∙ among.flat key;
  other = λ other is_no_key. found_put other name value found (bytes_eq other name) refl
      ∙ ap (cond (bytes_eq other name) (Some value)) (among.other other is_no_key);
  listed = λ keys flats rows.
      let parts = and_parts (is_listed keys name) (list_all (λ row. is_listed keys row.0) others) rows in
      listed_put keys name value found parts.0 (among.listed keys flats parts.1);
  alone = λ none. absurd cc;
}

-- ---- cuts

-- the brace
pub stands_open : (deep : ℕ) (text rest : List ℕ) → text ≡ 123 ∷ rest → Holds deep text [] [] rest
stands_open deep text rest is = record { found = no_members; opens = opens_none deep text rest is; among = among_none }

-- a flat member and a comma
pub holds_more : (deep : ℕ) (text between after : List ℕ) (members : List Member) (others : List (List ℕ × Data))
    (last : Member) → Holds deep text members others between
    → between ≡ member_piece last ++ 44 ∷ after → is_member_in_range last ≡ true
    → Holds deep text (members ++ last ∷ []) others after
holds_more deep text between after members others last holds piece held =
    let inner = leaf_piece last.leaf ++ 44 ∷ after in
    let begins = begins_within 0 deep inner (leaf_data last.leaf) (44 ∷ after) (omega arith)
    (begins_leaf inner (44 ∷ after) last.leaf refl held) in record {
      found = put (key_text last.key) (leaf_data last.leaf) holds.found;
      opens = opens_more deep text (key_text last.key) between inner after holds.found (leaf_data last.leaf) holds.opens
          (member_parts last between (44 ∷ after) piece) begins;
      among = among_flat members others holds.found last holds.among;
    }

-- a flat member and the closing brace
pub holds_end : (deep : ℕ) (text between after : List ℕ) (members : List Member) (others : List (List ℕ × Data))
    (last : Member) → Holds deep text members others between
    → between ≡ member_piece last ++ 125 ∷ after → is_member_in_range last ≡ true
    → IsObject deep text (members ++ last ∷ []) others after
holds_end deep text between after members others last holds piece held =
    let inner = leaf_piece last.leaf ++ 125 ∷ after in
    let begins = begins_within 0 deep inner (leaf_data last.leaf) (125 ∷ after) (omega arith)
    (begins_leaf inner (125 ∷ after) last.leaf refl held) in record {
      found = put (key_text last.key) (leaf_data last.leaf) holds.found;
      begins = begins_object deep text (key_text last.key) between inner after holds.found (leaf_data last.leaf)
          holds.opens (member_parts last between (125 ∷ after) piece) begins;
      among = among_flat members others holds.found last holds.among;
    }

-- a key and its value, up to the cut behind it
pub passes_value : (deep : ℕ) (between : Bor (List ℕ)) (inner name : List ℕ) (value : Data) (after : Cut)
    → IsOther name → between.now ≡ quoted name ++ inner → Begins deep inner value (cut_piece after)
    → Passes deep name (Some value) (More between) after
passes_value deep between inner name value (More rest) other piece begins = λ text members others holds. record {
  found = put name value holds.found;
  opens = opens_more deep text name between.now inner rest.now holds.found value holds.opens
      (piece ∙ ap (λ s. s ++ inner) (sym (plain_key name other.plain))) begins;
  among = among_other members others holds.found name value other.no_key holds.among;
}
passes_value deep between inner name value (End rest) other piece begins = λ text members others holds. record {
  found = put name value holds.found;
  begins = begins_object deep text name between.now inner rest.now holds.found value holds.opens
      (piece ∙ ap (λ s. s ++ inner) (sym (plain_key name other.plain))) begins;
  among = among_other members others holds.found name value other.no_key holds.among;
}

-- the object of flat members alone
pub flat_object : (deep : ℕ) (text rest : List ℕ) (members : List Member) → IsObject deep text members [] rest
    → Begins (suc deep) text (flat_data members) rest
flat_object deep text rest members is =
    subst (λ found. Begins (suc deep) text (object found) rest) (is.among.alone refl) is.begins

-- what a form of a flat member's value gives stands in the object
pub flat_field : {A : Type 0} (members : List Member) (others : List (List ℕ × Data)) (found : Members)
    (form : Data → Finding A) (key : Key) (given : Finding A) → Among members others found
    → field (key_text key) form (flat_data members) ≡ given → present form (get_member (key_text key) found) ≡ given
flat_field members others found form key given among is = ap (present form) (among.flat key) ∙ is

-- the same of a value that may be absent
pub flat_absent : {A : Type 0} (members : List Member) (others : List (List ℕ × Data)) (found : Members) (absent : A)
    (form : Data → Finding A) (key : Key) (given : Finding A) → Among members others found
    → present_or absent form (get (key_text key) (flat_data members)) ≡ given
    → present_or absent form (get_member (key_text key) found) ≡ given
flat_absent members others found absent form key given among is = ap (present_or absent form) (among.flat key) ∙ is

-- an object of which a form makes a value reads as it, up to the last bytes
pub object_reads : {A : Type 0} (form : Data → ReadResult A) (made : A) (deep : ℕ) (text rest : List ℕ)
    (members : List Member) (others : List (List ℕ × Data)) → IsObject deep text members others rest
    → Makes form made members others → Reads form (suc deep) text made (last_of (length rest) text)
object_reads form made deep text rest members others is makes =
    reads_last form (suc deep) text made rest
    (record { value = object is.found; begins = is.begins; gives = makes is.found is.among })

-- ---- values at names

-- the value at a name is found among the others with it
pub found_with : (name : List ℕ) (value : Option Data) (others : List (List ℕ × Data)) → meaning_of name others ≡ None
    → meaning_of name (with_value name value others) ≡ value
found_with name None others none = none
found_with name (Some value) others none =
    let same : bytes_eq name name ≡ true = grind (arith, bytes_eq-Decides name name) in rw same refl

-- with a value at one name the others stay
pub unlike_with : (other name : List ℕ) (value : Option Data) (others : List (List ℕ × Data))
    → bytes_eq other name ≡ false → meaning_of other (with_value name value others) ≡ meaning_of other others
unlike_with other name None others differs = refl
unlike_with other name (Some value) others differs = rw differs refl

-- a name that may be there, with others that may
pub listed_with : (keys name : List ℕ) (value : Option Data) (others : List (List ℕ × Data))
    → is_listed keys name ≡ true
    → list_all (λ row. is_listed keys row.0) others ≡ true
    → list_all (λ row. is_listed keys row.0) (with_value name value others) ≡ true
listed_with keys name None others here rest = rest
listed_with keys name (Some value) others here rest = rw (here, rest) refl

-- a list at a key that may be absent
pub list_if_any : {A : Type 0} (key : List ℕ) (form : Data → ReadResult A) (most : ℕ) (values : Option Items)
    (found : List A) → GivesEach form found values → length found ≤ most
    → (under key (here (if_present (items_in 0 most) (option_map array values))) >>= λ there.
    each_or_none key form there) ≡ Ok found
list_if_any key form most None found gives few = ap Ok (sym gives)
list_if_any key form most (Some values) found gives few =
    let sized : is_between 0 most (items_len values) ≡ true = grind (arith, common_steps, gives.1, few) in
    rw (sized, gives.0) refl
