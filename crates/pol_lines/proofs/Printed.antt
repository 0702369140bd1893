-- What JSON writes of a tree, piece by piece, and what it reads as.
use Rattle.std.proofs.Common.{◌≡◌, ℕ, suc, ◌≤◌, List, [], ◌∷◌, ◌++◌, Bool, true, false, Option, Some, None, option_map}
use Rattle.std.proofs.Common.{option_and_then, refl, sym, ap, ◌∙◌, arith, append_assoc, append-nil, fold}
use Rattle.json.specs.Json as json
use Rattle.json.specs.Token as token
use Rattle.json.specs.Print.{ends, print, print_from, token_text}
use Rattle.json.specs.Tree.{depth, members_depth, HasNumbers, MembersHaveNumbers, items_tokens, json_tokens}
use Rattle.json.specs.Tree.{members_tokens}
use Rattle.json.proofs.Printed.Tokens.{print_from-append, tokens-print}
use Rattle.json.proofs.Printed.Trees.{ArePrintable-json_tokens, value-json_tokens}
use Rattle.serde_json.specs.Data.{Data, Members, no_members, object, put}
use Rattle.serde_json.specs.Read.{of_json, of_members, read}
use Rattle.mtp_json.specs.ReadResult.{ReadResult}
use Rattle.pol_lines.specs.Begins.{Begins, Opens, Reads, member_pieces}

-- ---- a tree and what comes behind it

-- whether a value ends goes on behind the tokens so far
fold_behind : (state : Bool) (tokens others : List token.Token) → fold (λ _ each. ends each) state (tokens ++ others)
    ≡ fold (λ _ each. ends each) (fold (λ _ each. ends each) state tokens) others
fold_behind state [] others = refl
fold_behind state (first ∷ tokens) others = fold_behind (ends first) tokens others

-- the last token of a value ends it
mutual
  tree_ends : (state : Bool) (tree : json.Json) → fold (λ _ each. ends each) state (json_tokens tree) ≡ true
  tree_ends state json.null = refl
  tree_ends state (json.boolean bit) = refl
  tree_ends state (json.number text) = refl
  tree_ends state (json.string text) = refl
  tree_ends state (json.array trees) = items_end false trees
  tree_ends state (json.object trees) = members_end false trees

  items_end : (state : Bool) (trees : json.Items) → fold (λ _ each. ends each) state (items_tokens trees) ≡ true
  items_end state json.no_items = refl
  items_end state (json.item tree trees) = fold_behind state (json_tokens tree) (items_tokens trees) ∙ items_end _ trees

  members_end : (state : Bool) (trees : json.Members) → fold (λ _ each. ends each) state (members_tokens trees) ≡ true
  members_end state json.no_members = refl
  members_end state (json.member key tree trees) = fold_behind false (json_tokens tree) (members_tokens trees)
      ∙ members_end _ trees

-- what follows a value is printed behind it
pub tree_before : (tree : json.Json) (more : List token.Token)
    → print_from false (json_tokens tree ++ more) ≡ print (json_tokens tree) ++ print_from true more
tree_before tree more =
    print_from-append false (json_tokens tree) more ∙ ap (λ state. print (json_tokens tree) ++ print_from state more)
    (tree_ends false tree)

-- ---- members one after another

-- one more member at the end
abbrev pub then_member : json.Members → List ℕ → json.Json → json.Members
then_member json.no_members key tree = json.member key tree json.no_members
then_member (json.member first inner others) key tree = json.member first inner (then_member others key tree)

-- a comma comes before a member that follows another
comma_before : (trees : json.Members) (key : List ℕ) (tree : json.Json)
    → print_from true (members_tokens (then_member trees key tree))
    ≡ 44 ∷ print_from false (members_tokens (then_member trees key tree))
unfolding print_from
comma_before json.no_members key tree = refl
comma_before (json.member first inner others) key tree = refl

-- a key, its value and what follows
member_before : (key : List ℕ) (tree : json.Json) (others : json.Members)
    → print_from false (members_tokens (json.member key tree others))
    ≡ token_text (token.key key) ++ (print (json_tokens tree) ++ print_from true (members_tokens others))
unfolding print_from
member_before key tree others = ap (λ s. token_text (token.key key) ++ s) (tree_before tree (members_tokens others))

-- members, a last one and the closing brace
members_close : (trees : json.Members) (key : List ℕ) (tree : json.Json)
    → print_from false (members_tokens (then_member trees key tree))
    ≡ member_pieces trees ++ (token_text (token.key key) ++ (print (json_tokens tree) ++ 125 ∷ []))
unfolding print_from
members_close json.no_members key tree = member_before key tree json.no_members
members_close (json.member first inner others) key tree =
    let behind = token_text (token.key key) ++ (print (json_tokens tree) ++ 125 ∷ []) in
    let name = token_text (token.key first) in
    let held = print (json_tokens inner) in
    member_before first inner (then_member others key tree)
    ∙ ap (λ s. name ++ (held ++ s)) (comma_before others key tree ∙ ap (λ s. 44 ∷ s) (members_close others key tree))
    ∙ sym (append_assoc (name ++ (held ++ 44 ∷ [])) (member_pieces others) behind
    ∙ append_assoc name (held ++ 44 ∷ []) (member_pieces others ++ behind)
    ∙ ap (λ s. name ++ s) (append_assoc held (44 ∷ []) (member_pieces others ++ behind)))

-- members and one more, each with its comma
pieces_then : (trees : json.Members) (key : List ℕ) (tree : json.Json)
    → member_pieces (then_member trees key tree) ≡ member_pieces trees ++
    (token_text (token.key key) ++ (print (json_tokens tree) ++ 44 ∷ []))
pieces_then json.no_members key tree = append-nil _
pieces_then (json.member first inner others) key tree =
    let piece = token_text (token.key first) ++ (print (json_tokens inner) ++ 44 ∷ []) in
    ap (λ s. piece ++ s) (pieces_then others key tree) ∙ sym (append_assoc piece (member_pieces others) _)

-- their numbers are numbers
numbers_then : (trees : json.Members) (key : List ℕ) (tree : json.Json) → MembersHaveNumbers trees → HasNumbers tree
    → MembersHaveNumbers (then_member trees key tree)
numbers_then json.no_members key tree numbers here = (here, tt)
numbers_then (json.member first inner others) key tree numbers here =
    (numbers.0, numbers_then others key tree numbers.1 here)

-- they nest no deeper
depth_then : (deep : ℕ) (trees : json.Members) (key : List ℕ) (tree : json.Json) → members_depth trees ≤ deep
    → depth tree ≤ deep
    → members_depth (then_member trees key tree) ≤ deep
depth_then deep json.no_members key tree shallow here = omega (arith)
depth_then deep (json.member first inner others) key tree shallow here =
    omega (arith, depth_then deep others key tree (omega arith) here)

-- what one more member means is put last
means_then : (trees : json.Members) (key : List ℕ) (tree : json.Json) (before found : Members) (value : Data)
    → of_members trees before ≡ Some found → of_json tree ≡ Some value
    → of_members (then_member trees key tree) before ≡ Some (put key value found)
means_then json.no_members key tree before found value is here =
    rw here (let same : before ≡ found = cc in rw same refl)
means_then (json.member first inner others) key tree before found value is here =
    go (of_json inner) is (λ held read. means_then others key tree (put first held before) found value read here)
  where
    go : (read : Option Data) → option_and_then (λ held. of_members others (put first held before)) read ≡ Some found
        → ((held : Data) → of_members others (put first held before) ≡ Some found
        → of_members (then_member others key tree) (put first held before) ≡ Some (put key value found))
        → option_and_then (λ held. of_members (then_member others key tree) (put first held before)) read
        ≡ Some (put key value found)
    go None none next = absurd cc
    go (Some held) some next = next held some

-- ---- what a text begins with

-- a brace opens an object
pub opens_none : (deep : ℕ) (text rest : List ℕ) → text ≡ 123 ∷ rest → Opens deep text no_members rest
opens_none deep text rest is = record {
  trees = json.no_members;
  piece = is;
  numbers = tt;
  shallow =
      omega arith;
  means = refl;
}

-- a member with a comma behind those before
pub opens_more : (deep : ℕ) (text key between inner after : List ℕ) (found : Members) (value : Data)
    → Opens deep text found between → between ≡ token_text (token.key key) ++ inner
    → Begins deep inner value (44 ∷ after)
    → Opens deep text (put key value found) after
opens_more deep text key between inner after found value opens piece begins = record {
  trees = then_member opens.trees key begins.tree;
  piece = let name = token_text (token.key key) in
      let held = print (json_tokens begins.tree) in
      opens.piece ∙ ap (λ s. 123 ∷ (member_pieces opens.trees ++ s))
      (piece ∙ ap (λ s. name ++ s) (begins.piece ∙ sym (append_assoc held (44 ∷ []) after))
      ∙ sym (append_assoc name (held ++ 44 ∷ []) after))
      ∙ ap (λ s. 123 ∷ s) (sym (append_assoc (member_pieces opens.trees) (name ++ (held ++ 44 ∷ [])) after)
      ∙ ap (λ s. s ++ after) (sym (pieces_then opens.trees key begins.tree)));
  numbers = numbers_then opens.trees key begins.tree opens.numbers begins.numbers;
  shallow = depth_then deep opens.trees key begins.tree opens.shallow begins.shallow;
  means = means_then opens.trees key begins.tree no_members found value opens.means begins.means;
}

-- what nests less deep does so too
pub begins_within : (deep more : ℕ) (text : List ℕ) (value : Data) (rest : List ℕ) → deep ≤ more
    → Begins deep text value rest → Begins more text value rest
begins_within deep more text value rest fits begins = record {
  tree = begins.tree;
  piece = begins.piece;
  numbers = begins.numbers;
  shallow = omega (arith, begins.shallow);
  means = begins.means;
}

-- what was read is read so, where it nests less deep, and of what is the same
pub reads_as : {A : Type 0} (form : Data → ReadResult A) (deep more : ℕ) (text : List ℕ) (made found : A)
    (rest : List ℕ) → found ≡ made → deep ≤ more → Reads form deep text made rest → Reads form more text found rest
reads_as form deep more text made found rest same fits reads = record {
  value = reads.value;
  begins = begins_within deep more text reads.value rest fits reads.begins;
  gives = rw same reads.gives;
}

-- the last member and the closing brace
pub begins_object : (deep : ℕ) (text key between inner after : List ℕ) (found : Members) (value : Data)
    → Opens deep text found between → between ≡ token_text (token.key key) ++ inner
    → Begins deep inner value (125 ∷ after)
    → Begins (suc deep) text (object (put key value found)) after
unfolding print_from
begins_object deep text key between inner after found value opens piece begins = record {
  tree = json.object (then_member opens.trees key begins.tree);
  piece = let name = token_text (token.key key) in
      let held = print (json_tokens begins.tree) in
      opens.piece ∙ ap (λ s. 123 ∷ (member_pieces opens.trees ++ s))
      (piece ∙ ap (λ s. name ++ s) (begins.piece ∙ sym (append_assoc held (125 ∷ []) after))
      ∙ sym (append_assoc name (held ++ 125 ∷ []) after))
      ∙ ap (λ s. 123 ∷ s) (sym (append_assoc (member_pieces opens.trees) (name ++ (held ++ 125 ∷ [])) after)
      ∙ ap (λ s. s ++ after) (sym (members_close opens.trees key begins.tree)));
  numbers = numbers_then opens.trees key begins.tree opens.numbers begins.numbers;
  shallow = omega (arith, depth_then deep opens.trees key begins.tree opens.shallow begins.shallow);
  means = ap (option_map object) (means_then opens.trees key begins.tree no_members found value
      opens.means begins.means);
}

-- ---- what is read

-- the printed text of a tree reads as what the tree means
read_print : (tree : json.Json) → HasNumbers tree → depth tree ≤ 127 → read (print (json_tokens tree)) ≡ of_json tree
read_print tree numbers shallow =
    ap (λ found. option_and_then of_json (option_and_then (λ p. json.if_last p.0 p.1) found))
    (ap (json.value 127) (tokens-print (json_tokens tree) (ArePrintable-json_tokens tree numbers)
    ∙ sym (append-nil (json_tokens tree)))
    ∙ value-json_tokens tree 127 [] shallow)

-- a text that is what is written of a value reads as the value
pub begins_all : (deep : ℕ) (text : List ℕ) (value : Data) → deep ≤ 127 → Begins deep text value []
    → read text ≡ Some value
begins_all deep text value fits begins =
    ap read (begins.piece ∙ append-nil (print (json_tokens begins.tree)))
    ∙ read_print begins.tree begins.numbers (omega (arith, begins.shallow)) ∙ begins.means
