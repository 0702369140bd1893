-- Values whose texts are exact: by their numbers, and put together.
use Rattle.std.proofs.Common.{◌≡◌, ◌≤◌, [], ◌∷◌, ◌++◌, ℕ, suc, List, Option, Some, None, refl, sym, ap, ap₂, ◌∙◌, subst}
use Rattle.std.proofs.Common.{arith, append-nil, codes}
use Rattle.std.specs.Prelude.{max, option_and_then}
use Rattle.std.specs.Str.{IsUtf8}
use Rattle.std.proofs.lemmas.Str.{IsUtf8-append}
use Rattle.json.specs.Token.{Token}
use Rattle.json.specs.Lex.{tokens}
use Rattle.json.specs.Json as json
use Rattle.json.specs.Tree as tree
use Rattle.json.specs.Tree.{HasNumbers, json_tokens}
use Rattle.json.specs.Print.{ArePrintableOrBad}
use Rattle.json.proofs.Found.{one_reading}
use Rattle.json.proofs.Numbered.{ArePrintableOrBad-tokens, value-HasNumbers}
use Rattle.json.proofs.Printed.Tokens.{tokens-print}
use Rattle.json.proofs.Printed.Trees.{ArePrintable-json_tokens, value-json_tokens}
use Rattle.json.proofs.Printed.Utf8.{IsUtf8-are_ascii}
use Rattle.serde_json.specs.Data.{Data, null, boolean, number, string, array, object, Items, no_items, item, Members}
use Rattle.serde_json.specs.Data.{no_members, member, depth, items_depth, members_depth}
use Rattle.serde_json.specs.Read.{max_depth, of_json, read}
use Rattle.serde_json.specs.Written.{compact_text, items_outline, members_outline, outline}
use Rattle.serde_json.proofs.Texts.{print-outline}
use Rattle.pol_record.specs.Texts.{entry_object}
use Rattle.pol_record.specs.Exact.{IsExact}
use Rattle.pol_record.proofs.Pieces.{entry_text}

-- ---- a value and its outline

mutual
  -- the outline of a value nests as deep as the value
  outline_depth : (value : Data) → tree.depth (outline value) ≡ depth value
  outline_depth null = refl
  outline_depth (boolean b) = refl
  outline_depth (number n) = refl
  outline_depth (string s) = refl
  outline_depth (array items) = ap suc (items_outline_depth items)
  outline_depth (object members) = ap suc (members_outline_depth members)

  -- that of items nests as deep as the items
  items_outline_depth : (items : Items) → tree.items_depth (items_outline items) ≡ items_depth items
  items_outline_depth no_items = refl
  items_outline_depth (item value items) = ap₂ max (outline_depth value) (items_outline_depth items)

  -- that of members nests as deep as the members
  members_outline_depth : (members : Members) → tree.members_depth (members_outline members) ≡ members_depth members
  members_outline_depth no_members = refl
  members_outline_depth (member key value members) = ap₂ max (outline_depth value) (members_outline_depth members)

-- the text is UTF-8, the numbers of the outline are numbers, and the outline is read as the value
pub record IsSound (value : Data) : Type 0 where
  pub utf8 : IsUtf8 (compact_text value)
  pub numbers : HasNumbers (outline value)
  pub again : of_json (outline value) ≡ Some value

-- ---- from texts to outlines, and back

-- what was read to its end, as a value
abbrev whole : Option (json.Json × List Token) → Option Data
whole found = option_and_then of_json (option_and_then (λ pair. json.if_last pair.0 pair.1) found)

-- tokens that were read of a text, and are those of a value, have numbers
has_numbers : (text : List ℕ) (read : json.Json) → tokens text ≡ json_tokens read → HasNumbers read
has_numbers text read is =
    value-HasNumbers (tree.depth read) (json_tokens read) [] read
    (subst ArePrintableOrBad is (ArePrintableOrBad-tokens text))
    (ap (json.value (tree.depth read)) (sym (append-nil (json_tokens read)))
    ∙ value-json_tokens read (tree.depth read) [] (omega arith))

-- the outline of a value whose text is exact is read as the value
outline_again : (value : Data) → IsExact value → of_json (outline value) ≡ Some value
outline_again value exact = go (json.value max_depth (tokens (compact_text value))) refl exact.read_back
  where
    own : json.value (tree.depth (outline value)) (tokens (compact_text value)) ≡ Some (outline value, [])
    own =
        ap (json.value (tree.depth (outline value))) (exact.tokens_are ∙ sym (append-nil (json_tokens (outline value))))
        ∙ value-json_tokens (outline value) (tree.depth (outline value)) [] (omega arith)

    go : (found : Option (json.Json × List Token)) → json.value max_depth (tokens (compact_text value)) ≡ found
        → option_and_then of_json (option_and_then (λ pair. json.if_last pair.0 pair.1) found) ≡ Some value
        → of_json (outline value) ≡ Some value
    go None read is = absurd cc
    go (Some (first, token ∷ more)) read is = absurd cc
    go (Some (first, [])) read is =
        let one = one_reading max_depth (tree.depth (outline value)) (tokens (compact_text value)) (first, [])
        (outline value, []) read own in
        let same : first ≡ outline value = cc in
        rw (← same) is

-- a value whose text is exact is sound
pub exact_sound : (value : Data) → IsExact value → IsSound value
exact_sound value exact =
    record {
      utf8 = exact.utf8;
      numbers = has_numbers (compact_text value) (outline value) exact.tokens_are;
      again = outline_again value exact;
    }

-- a sound value that doesn't nest too deep has an exact text
pub sound_exact : (value : Data) → depth value ≤ max_depth → IsSound value → IsExact value
sound_exact value shallow sound = record { utf8 = sound.utf8; tokens_are = tokens_are; read_back = read_back }
  where
    tokens_are : tokens (compact_text value) ≡ json_tokens (outline value)
    tokens_are =
        ap tokens (sym (print-outline value))
        ∙ tokens-print (json_tokens (outline value)) (ArePrintable-json_tokens (outline value) sound.numbers)

    read_back : read (compact_text value) ≡ Some value
    read_back =
        ap whole (ap (json.value max_depth) (tokens_are ∙ sym (append-nil (json_tokens (outline value))))
        ∙ value-json_tokens (outline value) max_depth [] (rw (outline_depth value) shallow))
        ∙ sound.again

-- ---- an entry

-- the object of a sound answer and a sound event is sound
pub entry_sound : (answer event : Data) → IsSound answer → IsSound event → IsSound (entry_object answer event)
unfolding entry_object
entry_sound answer event told happened =
    record {
      utf8 = subst IsUtf8 (sym (entry_text answer event)) texts;
      numbers = (told.numbers, (happened.numbers, tt));
      again = rw (told.again, happened.again) refl;
    }
  where
    texts : IsUtf8 (codes "{\"answer\":"
        ++ (compact_text answer ++ (codes ",\"event\":" ++ (compact_text event ++ codes "}"))))
    texts =
        IsUtf8-append _ _ (IsUtf8-are_ascii (codes "{\"answer\":") refl)
        (IsUtf8-append _ _ told.utf8
        (IsUtf8-append _ _ (IsUtf8-are_ascii (codes ",\"event\":") refl)
        (IsUtf8-append _ _ happened.utf8 (IsUtf8-are_ascii (codes "}") refl))))
