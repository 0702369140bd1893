-- What JSON writes of a list, item by item.
use Rattle.std.proofs.Common.{◌≡◌, ℕ, suc, ◌≤◌, List, [], ◌∷◌, ◌++◌, true, false, Option, Some, None, Ok, Err}
use Rattle.std.proofs.Common.{option_map, option_and_then, refl, sym, ap, ◌∙◌, arith, append_assoc, append-nil}
use Rattle.std.proofs.Common.{length-append}
use Rattle.json.specs.Json as json
use Rattle.json.specs.Token as token
use Rattle.json.specs.Print.{print, print_from}
use Rattle.json.specs.Tree.{depth, items_depth, HasNumbers, ItemsHaveNumbers, items_tokens, json_tokens}
use Rattle.serde_json.specs.Data.{Data, Items, array, item, no_items}
use Rattle.serde_json.specs.Events.{items_len}
use Rattle.serde_json.specs.Read.{of_items, of_json}
use Rattle.mtp_json.specs.Form.{each}
use Rattle.mtp_json.specs.ReadResult.{ReadResult, ◌>>=◌, in_place}
use Rattle.pol_lines.specs.Begins.{OpensList, Reads, ReadsList, item_pieces}
use Rattle.pol_lines.proofs.Printed.{tree_before}

-- ---- trees

-- one more tree at the end
abbrev then_tree : json.Items → json.Json → json.Items
then_tree json.no_items tree = json.item tree json.no_items
then_tree (json.item first others) tree = json.item first (then_tree others tree)

-- a value behind another has a comma before it
starts : (tree : json.Json) (more : List token.Token) → print_from true (json_tokens tree ++ more)
    ≡ 44 ∷ print_from false (json_tokens tree ++ more)
unfolding print_from
starts json.null more = refl
starts (json.boolean bit) more = refl
starts (json.number text) more = refl
starts (json.string text) more = refl
starts (json.array trees) more = refl
starts (json.object trees) more = refl

-- a comma comes before an item that follows another
comma_before : (trees : json.Items) (tree : json.Json)
    → print_from true (items_tokens (then_tree trees tree)) ≡ 44 ∷ print_from false
    (items_tokens (then_tree trees tree))
unfolding print_from
comma_before json.no_items tree = starts tree (items_tokens json.no_items)
comma_before (json.item first others) tree = starts first (items_tokens (then_tree others tree))

-- items, a last one and the closing bracket
items_close : (trees : json.Items) (tree : json.Json) → print_from false (items_tokens (then_tree trees tree))
    ≡ item_pieces trees ++ (print (json_tokens tree) ++ 93 ∷ [])
unfolding print_from
items_close json.no_items tree = tree_before tree (items_tokens json.no_items)
items_close (json.item first others) tree =
    let behind = print (json_tokens tree) ++ 93 ∷ [] in
    let held = print (json_tokens first) in
    tree_before first (items_tokens (then_tree others tree))
    ∙ ap (λ s. held ++ s) (comma_before others tree ∙ ap (λ s. 44 ∷ s) (items_close others tree))
    ∙ sym (append_assoc (held ++ 44 ∷ []) (item_pieces others) behind
    ∙ append_assoc held (44 ∷ []) (item_pieces others ++ behind))

-- items and one more, each with its comma
pieces_then : (trees : json.Items) (tree : json.Json) → item_pieces (then_tree trees tree)
    ≡ item_pieces trees ++ (print (json_tokens tree) ++ 44 ∷ [])
pieces_then json.no_items tree = append-nil _
pieces_then (json.item first others) tree =
    let piece = print (json_tokens first) ++ 44 ∷ [] in
    ap (λ s. piece ++ s) (pieces_then others tree) ∙ sym (append_assoc piece (item_pieces others) _)

-- their numbers are numbers
numbers_then : (trees : json.Items) (tree : json.Json) → ItemsHaveNumbers trees → HasNumbers tree
    → ItemsHaveNumbers (then_tree trees tree)
numbers_then json.no_items tree numbers here = (here, tt)
numbers_then (json.item first others) tree numbers here = (numbers.0, numbers_then others tree numbers.1 here)

-- they nest no deeper
depth_then : (deep : ℕ) (trees : json.Items) (tree : json.Json) → items_depth trees ≤ deep → depth tree ≤ deep
    → items_depth (then_tree trees tree) ≤ deep
depth_then deep json.no_items tree shallow here = omega (arith)
depth_then deep (json.item first others) tree shallow here =
    omega (arith, depth_then deep others tree (omega arith) here)

-- ---- values

-- one more value at the end
abbrev then_value : Items → Data → Items
then_value no_items value = item value no_items
then_value (item first others) value = item first (then_value others value)

-- what one more tree means comes last
means_then : (trees : json.Items) (tree : json.Json) (values : Items) (value : Data) → of_items trees ≡ Some values
    → of_json tree ≡ Some value
    → of_items (then_tree trees tree) ≡ Some (then_value values value)
means_then json.no_items tree values value is here = rw here (let same : no_items ≡ values = cc in rw (← same) refl)
means_then (json.item first others) tree values value is here =
    go (of_json first) (of_items others) is (λ held read. means_then others tree held value read here)
  where
    go : (read : Option Data) (behind : Option Items) → option_and_then
        (λ held. option_map (item held) behind) read ≡ Some values
        → ((held : Items) → behind ≡ Some held → of_items (then_tree others tree) ≡ Some (then_value held value))
        → option_and_then (λ held. option_map (item held) (of_items (then_tree others tree))) read
        ≡ Some (then_value values value)
    go None behind none next = absurd cc
    go (Some held) None none next = absurd cc
    go (Some held) (Some rest) some next = let same : item held rest ≡ values = cc in rw (next rest refl, ← same) refl

-- one more
many_then : (values : Items) (value : Data) → items_len (then_value values value) ≡ suc (items_len values)
many_then no_items value = refl
many_then (item first others) value = ap suc (many_then others value)

-- what the form gives of one more comes last
gives_then : {A : Type 0} (form : Data → ReadResult A) (place : ℕ) (values : Items) (value : Data)
    (found : List A) (last : A)
    → each form place values ≡ Ok found → form value ≡ Ok last
    → each form place (then_value values value) ≡ Ok (found ++ last ∷ [])
unfolding each
gives_then form place no_items value found last is here = rw here (let same : [] ≡ found = cc in rw (← same) refl)
gives_then {A = A} form place (item first others) value found last is here =
    go (form first) (each form (suc place) others) is (λ held read. gives_then form
    (suc place) others value held last read here)
  where
    go : (read : ReadResult A) (behind : ReadResult (List A)) → (in_place place read >>= λ one. behind >>= λ more. Ok
        (one ∷ more)) ≡ Ok found
        → ((held : List A) → behind ≡ Ok held → each form (suc place) (then_value others value)
        ≡ Ok (held ++ last ∷ []))
        → (in_place place read >>= λ one. each form (suc place) (then_value others value) >>= λ more. Ok (one ∷ more))
        ≡ Ok (found ++ last ∷ [])
    go (Err fault) behind none next = absurd cc
    go (Ok held) (Err fault) none next = absurd cc
    go (Ok held) (Ok rest) some next = let same : held ∷ rest ≡ found = cc in rw (next rest refl, ← same) refl

-- ---- what a text begins with

-- a bracket opens a list
pub list_opens : {A : Type 0} (form : Data → ReadResult A) (deep : ℕ) (text rest : List ℕ) → text ≡ 91 ∷ rest
    → OpensList form deep text [] rest
unfolding each
list_opens form deep text rest is =
    record {
      trees = json.no_items;
      piece = is;
      numbers = tt;
      shallow = omega arith;
      values = no_items;
      means =
          refl;
      gives = refl;
      many = refl;
    }

-- a list of nothing
pub list_empty : {A : Type 0} (form : Data → ReadResult A) (deep : ℕ) (text rest : List ℕ) → text ≡ 91 ∷ 93 ∷ rest
    → ReadsList form (suc deep) text [] rest
unfolding each print_from
list_empty form deep text rest is = record {
  values = no_items;
  begins = record { tree = json.array json.no_items; piece = is; numbers = tt; shallow = omega arith; means = refl };
  gives = refl;
  many = refl;
}

-- an item with a comma behind those before
pub list_more : {A : Type 0} (form : Data → ReadResult A) (deep : ℕ) (text between after : List ℕ)
    (found : List A) (last : A)
    → OpensList form deep text found between → Reads form deep between last (44 ∷ after)
    → OpensList form deep text (found ++ last ∷ []) after
list_more form deep text between after found last opens reads =
    let tree = reads.begins.tree in
    let held = print (json_tokens tree) in record {
      trees = then_tree opens.trees tree;
      piece = opens.piece ∙ ap (λ s. 91 ∷ (item_pieces opens.trees ++ s))
          (reads.begins.piece ∙ sym (append_assoc held (44 ∷ []) after))
          ∙ ap (λ s. 91 ∷ s) (sym (append_assoc (item_pieces opens.trees) (held ++ 44 ∷ []) after)
          ∙ ap (λ s. s ++ after) (sym (pieces_then opens.trees tree)));
      numbers = numbers_then opens.trees tree opens.numbers reads.begins.numbers;
      shallow = depth_then deep opens.trees tree opens.shallow reads.begins.shallow;
      values = then_value opens.values reads.value;
      means = means_then opens.trees tree opens.values reads.value opens.means reads.begins.means;
      gives = gives_then form 0 opens.values reads.value found last opens.gives reads.gives;
      many = omega (arith, many_then opens.values reads.value, length-append found (last ∷ []), opens.many);
    }

-- the last item and the closing bracket
pub list_closes : {A : Type 0} (form : Data → ReadResult A) (deep : ℕ) (text between after : List ℕ)
    (found : List A) (last : A)
    → OpensList form deep text found between → Reads form deep between last (93 ∷ after)
    → ReadsList form (suc deep) text (found ++ last ∷ []) after
unfolding print_from
list_closes form deep text between after found last opens reads =
    let tree = reads.begins.tree in
    let held = print (json_tokens tree) in record {
      values = then_value opens.values reads.value;
      begins = record {
        tree = json.array (then_tree opens.trees tree);
        piece = opens.piece ∙ ap (λ s. 91 ∷ (item_pieces opens.trees ++ s))
            (reads.begins.piece ∙ sym (append_assoc held (93 ∷ []) after))
            ∙ ap (λ s. 91 ∷ s) (sym (append_assoc (item_pieces opens.trees) (held ++ 93 ∷ []) after)
            ∙ ap (λ s. s ++ after) (sym (items_close opens.trees tree)));
        numbers = numbers_then opens.trees tree opens.numbers reads.begins.numbers;
        shallow = omega (arith, depth_then deep opens.trees tree opens.shallow reads.begins.shallow);
        means = ap (option_map array) (means_then opens.trees tree opens.values reads.value opens.means
            reads.begins.means);
      };
      gives = gives_then form 0 opens.values reads.value found last opens.gives reads.gives;
      many = omega (arith, many_then opens.values reads.value, length-append found (last ∷ []), opens.many);
    }
