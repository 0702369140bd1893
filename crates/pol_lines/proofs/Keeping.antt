-- Parts of objects: what is kept of their values.
use Rattle.std.proofs.Common.{◌≡◌, ℕ, ◌+◌, ◌-◌, ◌<◌, ◌==◌, pos, negsuc, List, [], ◌∷◌, ◌++◌, length, take, drop}
use Rattle.std.proofs.Common.{slice_index, get_or, Bool, true, false, Option, Some, None, Ordering, Less, Equal}
use Rattle.std.proofs.Common.{Greater, refl, sym, ap, ◌∙◌, arith, append-nil, codes}
use Rattle.std.proofs.Math.Bool.{and_assoc, and_comm, and_self_left, and-true}
use Rattle.std.proofs.lemmas.List.{take-append-drop, take_more}
use Rattle.std.proofs.lemmas.Map.Text.{is_eq-slice_cmp}
use Rattle.std.proofs.lemmas.Slice.Eq.{bytes_eq-Decides}
use Rattle.std.specs.Prelude.{option_map, ◌&&◌}
use Rattle.std.specs.Str.{bytes_eq}
use Rattle.std.specs.Ordering.{is_eq, nat_cmp, match_ordering}
use Rattle.std.specs.List.{list_all}
use Rattle.std.specs.Cmp.Lexicographic.{slice_cmp}
use Rattle.fast_float.specs.Text.{scan}
use Rattle.json.specs.Json as json
use Rattle.json.specs.Print.{IsNumber, print_from, token_text}
use Rattle.json.specs.Run.{is_plain}
use Rattle.json.specs.Token as token
use Rattle.serde_json.specs.Data.{Data, Members, Num, array, float, member, negative, no_members, null, number, put}
use Rattle.serde_json.specs.Data.{unsigned}
use Rattle.serde_json.specs.Find.{get, get_member}
use Rattle.serde_json.specs.Read.{number_from, number_of}
use Rattle.serde_json.proofs.Views.{get_member-put, get_member-put_other}
use Rattle.mtp_json.specs.Form.{all_listed, is_listed}
use Rattle.pol_lines.specs.declared.leaf.Leaf.{Leaf}
use Rattle.pol_lines.specs.declared.leaf.Leaf.TheVariants.{Text, Whole, Bit}
use Rattle.pol_lines.specs.declared.parts.Part.{Part}
use Rattle.pol_lines.specs.Begins.{Reads, ReadsList}
use Rattle.pol_lines.specs.Keys.{quoted}
use Rattle.pol_lines.specs.Leaves.{is_leaf_in_range, leaf_data, leaf_piece}
use Rattle.pol_lines.specs.Parts.{BeginsHeld, BeginsPart, HoldsParts, IsFraction, IsOfParts, OpensItems, any_item}
use Rattle.pol_lines.specs.Parts.{held_data, parts_data, put_parts, simple, simple_members}
use Rattle.pol_lines.proofs.Cutting.{last_cut}
use Rattle.pol_lines.proofs.Listing.{list_closes, list_empty, list_more, list_opens}
use Rattle.pol_lines.proofs.Members.{begins_leaf, plain_key}
use Rattle.pol_lines.proofs.Printed.{begins_object, begins_within, opens_more, opens_none}

-- ---- what is kept of members

-- what is kept of a member put among others, by its order
simple_put_at : (order : Ordering) (key first : List ℕ) (value held : Data) (others : Members)
    → simple_members (put key value others) ≡ put key (simple value) (simple_members others)
    → simple_members (match_ordering order (member key value (member first held others)) (member first value others)
    (member first held (put key value others)))
    ≡ match_ordering order (member key (simple value) (member first (simple held) (simple_members others)))
    (member first (simple value) (simple_members others))
    (member first (simple held) (put key (simple value) (simple_members others)))
simple_put_at Less key first value held others later = refl
simple_put_at Equal key first value held others later = refl
simple_put_at Greater key first value held others later = ap (member first (simple held)) later

-- what is kept of a member put among others
pub simple_put : (key : List ℕ) (value : Data) (found : Members)
    → simple_members (put key value found) ≡ put key (simple value) (simple_members found)
simple_put key value no_members = refl
simple_put key value (member first held others) =
    simple_put_at (slice_cmp nat_cmp key first) key first value held others (simple_put key value others)

-- what is kept at a key, by its order
simple_get_at : (order : Ordering) (key : List ℕ) (held : Data) (others : Members)
    → get_member key (simple_members others) ≡ option_map simple (get_member key others)
    → match_ordering order (get_member key (simple_members others)) (Some (simple held))
    (get_member key (simple_members others))
    ≡ option_map simple (match_ordering order (get_member key others) (Some held) (get_member key others))
simple_get_at Less key held others later = later
simple_get_at Equal key held others later = refl
simple_get_at Greater key held others later = later

-- what is kept at a key
pub simple_get : (key : List ℕ) (found : Members)
    → get_member key (simple_members found) ≡ option_map simple (get_member key found)
simple_get key no_members = refl
simple_get key (member first held others) =
    simple_get_at (slice_cmp nat_cmp key first) key held others (simple_get key others)

-- the keys are kept
pub simple_listed : (keys : List ℕ) (found : Members) → all_listed keys (simple_members found) ≡ all_listed keys found
simple_listed keys no_members = refl
simple_listed keys (member first held others) = ap (λ more. is_listed keys first && more) (simple_listed keys others)

-- ---- one part after another

-- what is put after other parts is put into what they gave
pub put_parts_append : (parts others : List Part) (found : Members)
    → put_parts (parts ++ others) found ≡ put_parts others (put_parts parts found)
put_parts_append [] others found = refl
put_parts_append (first ∷ parts) others found =
    put_parts_append parts others (put first.key.now (held_data first.held) found)

-- the key of the part put last has its value
pub part_here : (parts : List Part) (place : ℕ) (default : Part) (key : List ℕ) → place < length parts
    → (get_or parts place default).key.now ≡ key
    → get key (parts_data (take (place + 1) parts)) ≡ Some (held_data (get_or parts place default).held)
part_here parts place default key within is =
    let last = get_or parts place default in
    let front = take place parts in
    rw (take_more parts place default within, put_parts_append front (last ∷ []) no_members, is)
    (get_member-put key (held_data last.held) (put_parts front no_members))

-- another key has the value that it had
pub part_before : (parts : List Part) (place : ℕ) (default : Part) (key : List ℕ) → place < length parts
    → ((get_or parts place default).key.now ≡ key → ⊥)
    → get key (parts_data (take (place + 1) parts)) ≡ get key (parts_data (take place parts))
part_before parts place default key within other =
    let last = get_or parts place default in
    let front = take place parts in
    rw (take_more parts place default within, put_parts_append front (last ∷ []) no_members)
    (get_member-put_other key last.key.now (held_data last.held) (put_parts front no_members)
    (λ same. other (sym same)))

-- a key that differs from a name that is another
pub key_differs : (key name other : List ℕ) → bytes_eq key name ≡ false → name ≡ other → key ≡ other → ⊥
key_differs key name other differs is same =
    let one : key ≡ name = same ∙ sym is in grind (arith, bytes_eq-Decides key name, one, differs)

-- ---- the keys of parts

-- two truths in either order
swapped : (first here others : Bool) → (first && (here && others)) ≡ (here && (first && others))
swapped first here others =
    sym (and_assoc first here others) ∙ ap (λ both. both && others) (and_comm first here)
    ∙ and_assoc here first others

-- whether all keys may be there, once one more is put, by its order
all_listed_at : (order : Ordering) (keys key first : List ℕ) (value held : Data) (others : Members)
    → slice_cmp nat_cmp key first ≡ order
    → all_listed keys (put key value others) ≡ (is_listed keys key && all_listed keys others)
    → all_listed keys (match_ordering order (member key value (member first held others)) (member first value others)
    (member first held (put key value others)))
    ≡ (is_listed keys key && (is_listed keys first && all_listed keys others))
all_listed_at Less keys key first value held others is later = refl
all_listed_at Equal keys key first value held others is later =
    let same : key ≡ first = (bytes_eq-Decides key first).0 (sym (is_eq-slice_cmp key first) ∙ ap is_eq is) in
    rw same (sym (and_self_left (is_listed keys first) (all_listed keys others)))
all_listed_at Greater keys key first value held others is later =
    ap (λ more. is_listed keys first && more) later
    ∙ swapped (is_listed keys first) (is_listed keys key) (all_listed keys others)

-- whether all keys may be there, once one more is put
all_listed_put : (keys key : List ℕ) (value : Data) (found : Members)
    → all_listed keys (put key value found) ≡ (is_listed keys key && all_listed keys found)
all_listed_put keys key value no_members = refl
all_listed_put keys key value (member first held others) =
    all_listed_at (slice_cmp nat_cmp key first) keys key first value held others refl
    (all_listed_put keys key value others)

-- whether all keys of parts may be there, those before among them
listed_after : (keys : List ℕ) (parts : List Part) (found : Members)
    → all_listed keys (put_parts parts found)
    ≡ (list_all (λ part. is_listed keys part.key.now) parts && all_listed keys found)
listed_after keys [] found = refl
listed_after keys (first ∷ parts) found =
    let name = first.key.now in
    let value = held_data first.held in
    let rest = list_all (λ part. is_listed keys part.key.now) parts in
    listed_after keys parts (put name value found)
    ∙ ap (λ more. rest && more) (all_listed_put keys name value found)
    ∙ swapped rest (is_listed keys name) (all_listed keys found)
    ∙ sym (and_assoc (is_listed keys name) rest (all_listed keys found))

-- whether all keys of parts may be there
pub parts_listed : (keys : List ℕ) (parts : List Part)
    → all_listed keys (put_parts parts no_members) ≡ list_all (λ part. is_listed keys part.key.now) parts
parts_listed keys parts = listed_after keys parts no_members ∙ and-true _

-- ---- what a text begins with

-- what is kept of a flat value
leaf_kept : (leaf : Leaf) → simple (leaf_data leaf) ≡ leaf_data leaf
leaf_kept (Text bytes) = refl
leaf_kept (Whole (pos n)) = refl
leaf_kept (Whole (negsuc n)) = refl
leaf_kept (Bit bit) = refl

-- a flat value
pub begins_flat : (text rest : List ℕ) (leaf : Leaf) → text ≡ leaf_piece leaf ++ rest
    → is_leaf_in_range leaf ≡ true → BeginsHeld text (leaf_data leaf) rest
begins_flat text rest leaf piece held = record {
  value = leaf_data leaf;
  begins = begins_within 0 1 text (leaf_data leaf) rest (omega arith) (begins_leaf text rest leaf piece held);
  keeps = leaf_kept leaf;
}

-- null
pub begins_null : (text rest : List ℕ) → text ≡ codes "null" ++ rest → BeginsHeld text null rest
unfolding print_from
begins_null text rest piece = record {
  value = null;
  begins = record { tree = json.null; piece = piece; numbers = tt; shallow = omega arith; means = refl };
  keeps = refl;
}

-- a number that isn't whole, by what it is read as
begins_number : (text digits rest : List ℕ) (read : Option Num) → text ≡ digits ++ rest → IsNumber digits
    → number_of digits ≡ read → IsFraction read → BeginsHeld text null rest
unfolding print_from
begins_number text digits rest None piece is read fraction = absurd fraction
begins_number text digits rest (Some (unsigned n)) piece is read fraction = absurd fraction
begins_number text digits rest (Some (negative z)) piece is read fraction = absurd fraction
begins_number text digits rest (Some (float x)) piece is read fraction = record {
  value = number (float x);
  begins = record {
    tree = json.number digits;
    piece = piece ∙ ap (λ s. s ++ rest) (sym (append-nil digits));
    numbers = is;
    shallow = omega arith;
    means = ap (option_map number) read;
  };
  keeps = refl;
}

-- a number that isn't whole
pub begins_fraction : (text digits rest : List ℕ) → text ≡ digits ++ rest → IsNumber digits
    → IsFraction (number_of digits) → BeginsHeld text null rest
begins_fraction text digits rest piece is fraction =
    begins_number text digits rest (number_of digits) piece is refl fraction

-- a number without a sign
pub number_of_plain : (digits : List ℕ) → (slice_index digits 0 == 45) ≡ false
    → number_of digits ≡ number_from false (scan digits)
unfolding number_of
number_of_plain digits plain = rw plain

-- such a number is the front of a text
pub fraction_front : (text : List ℕ) (count : ℕ) → IsNumber (take count text)
    → IsFraction (number_of (take count text))
    → BeginsHeld text null (take (length text - count) (drop count text))
fraction_front text count is fraction =
    rw (last_cut text count) (begins_fraction text (take count text) (drop count text)
    (sym (take-append-drop count text)) is fraction)

-- ---- lists

-- a bracket
pub items_open : (text rest : List ℕ) → text ≡ 91 ∷ rest → OpensItems text rest
items_open text rest piece = record { found = []; opens = list_opens any_item 0 text rest piece }

-- an item is read
item_reads : (text rest : List ℕ) (leaf : Leaf) → text ≡ leaf_piece leaf ++ rest → is_leaf_in_range leaf ≡ true
    → Reads any_item 0 text tt rest
item_reads text rest leaf piece held = record {
  value = leaf_data leaf;
  begins = begins_leaf text rest leaf piece held;
  gives = refl;
}

-- an item with a comma
pub items_more : (text between after : List ℕ) (leaf : Leaf) → OpensItems text between
    → between ≡ leaf_piece leaf ++ 44 ∷ after → is_leaf_in_range leaf ≡ true → OpensItems text after
items_more text between after leaf items piece held = record {
  found = items.found ++ tt ∷ [];
  opens = list_more any_item 0 text between after items.found tt items.opens
      (item_reads between (44 ∷ after) leaf piece held);
}

-- the last item and the closing bracket
pub items_close : (text between after : List ℕ) (leaf : Leaf) → OpensItems text between
    → between ≡ leaf_piece leaf ++ 93 ∷ after → is_leaf_in_range leaf ≡ true → BeginsHeld text null after
items_close text between after leaf items piece held =
    let list = list_closes any_item 0 text between after items.found tt items.opens
    (item_reads between (93 ∷ after) leaf piece held) in record {
      value = array list.values;
      begins = list.begins;
      keeps = refl;
    }

-- a list of nothing
pub items_none : (text rest : List ℕ) → text ≡ 91 ∷ 93 ∷ rest → BeginsHeld text null rest
items_none text rest piece =
    let list : ReadsList any_item 1 text [] rest = list_empty any_item 0 text rest piece in record {
      value = array list.values;
      begins = list.begins;
      keeps = refl;
    }

-- ---- objects

-- a brace
pub parts_open : (text rest : List ℕ) → text ≡ 123 ∷ rest → HoldsParts text [] rest
parts_open text rest piece = record { found = no_members; opens = opens_none 1 text rest piece; keeps = refl }

-- an object of nothing
pub parts_none : (text rest : List ℕ) → text ≡ 123 ∷ 125 ∷ rest → IsOfParts text [] rest
unfolding print_from
parts_none text rest piece = record {
  found = no_members;
  begins = record { tree = json.object json.no_members; piece = piece; numbers = tt; shallow = omega arith; means = refl };
  keeps = refl;
}

-- what is kept once a part is put
kept_then : (parts : List Part) (part : Part) (found : Members) (value : Data)
    → simple_members found ≡ put_parts parts no_members → simple value ≡ held_data part.held
    → simple_members (put part.key.now value found) ≡ put_parts (parts ++ part ∷ []) no_members
kept_then parts part found value before here =
    simple_put part.key.now value found
    ∙ ap (λ kept. put part.key.now kept (simple_members found)) here
    ∙ ap (put part.key.now (held_data part.held)) before ∙ sym (put_parts_append parts (part ∷ []) no_members)

-- a name in quotes is what is printed of a key
name_printed : (text name inner : List ℕ) → list_all is_plain name ≡ true → text ≡ quoted name ++ inner
    → text ≡ token_text (token.key name) ++ inner
name_printed text name inner plain piece = piece ∙ ap (λ s. s ++ inner) (sym (plain_key name plain))

-- a part with a comma
pub parts_more : (text between after : List ℕ) (parts : List Part) (part : Part) → HoldsParts text parts between
    → BeginsPart between part (44 ∷ after) → HoldsParts text (parts ++ part ∷ []) after
parts_more text between after parts part holds begins = record {
  found = put part.key.now begins.held.value holds.found;
  opens = opens_more 1 text part.key.now between begins.inner after holds.found begins.held.value holds.opens
      (name_printed between part.key.now begins.inner begins.plain begins.piece) begins.held.begins;
  keeps = kept_then parts part holds.found begins.held.value holds.keeps begins.held.keeps;
}

-- the last part and the closing brace
pub parts_close : (text between after : List ℕ) (parts : List Part) (part : Part) → HoldsParts text parts between
    → BeginsPart between part (125 ∷ after) → IsOfParts text (parts ++ part ∷ []) after
parts_close text between after parts part holds begins = record {
  found = put part.key.now begins.held.value holds.found;
  begins = begins_object 1 text part.key.now between begins.inner after holds.found begins.held.value holds.opens
      (name_printed between part.key.now begins.inner begins.plain begins.piece) begins.held.begins;
  keeps = kept_then parts part holds.found begins.held.value holds.keeps begins.held.keeps;
}
