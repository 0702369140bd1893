-- What is told of names, one place after the other.
use Rattle.std.proofs.Common.{◌≡◌, ◌+◌, ℕ, zero, suc, Some, None, List, [], ◌∷◌, ◌++◌, drop, map, refl, sym, ◌∙◌, ap}
use Rattle.std.proofs.Common.{append_assoc, add-one}
use Rattle.std.specs.Prelude.{slice_get, Option, filter_map}
use Rattle.json.specs.Token.{Token}
use Rattle.json.specs.Tree.{items_tokens}
use Rattle.serde_json.specs.Data.{Data}
use Rattle.serde_json.specs.View.{items_of}
use Rattle.serde_json.specs.Written.{items_outline}
use Rattle.pol_record.specs.Objects.{data_tokens}

-- the tokens of what is told of the last items of a list, and its bracket
abbrev pub rest_tokens : {A : Type 0} → (A → Data) → List A → List Token
rest_tokens told left = items_tokens (items_outline (items_of (map told left)))

-- the name at a place, and those behind it
cut_at : (names : List (List ℕ)) (place : ℕ) (name : List ℕ) → slice_get names place ≡ Some name
    → drop place names ≡ name ∷ drop (suc place) names
cut_at [] place name at = absurd cc
cut_at (first ∷ names) zero name at = let same : first ≡ name = cc in ap (λ first. first ∷ names) same
cut_at (first ∷ names) (suc place) name at = cut_at names place name at

-- where no name stands there, none is left
pub cut_end : (names : List (List ℕ)) (place : ℕ) → slice_get names place ≡ None → drop place names ≡ []
cut_end [] zero none = refl
cut_end [] (suc place) none = refl
cut_end (first ∷ names) zero none = absurd cc
cut_end (first ∷ names) (suc place) none = cut_end names place none

-- one more name is told
pub next_told : (told : List ℕ → Data) (names : List (List ℕ)) (place : ℕ) (name : List ℕ)
    (before after total : List Token) → slice_get names place ≡ Some name
    → before ++ rest_tokens told (drop place names) ≡ total → after ≡ before ++ data_tokens (told name)
    → after ++ rest_tokens told (drop (place + 1) names) ≡ total
next_told told names place name before after total at all wrote =
    rw add-one
    (ap (λ done. done ++ rest_tokens told (drop (suc place) names)) wrote
    ∙ append_assoc before (data_tokens (told name)) (rest_tokens told (drop (suc place) names))
    ∙ ap (λ left. before ++ rest_tokens told left) (sym (cut_at names place name at))
    ∙ all)

-- all are told, and the list ends
pub all_told : (told : List ℕ → Data) (names : List (List ℕ)) (place : ℕ) (before after total : List Token)
    (last : Token) → slice_get names place ≡ None → rest_tokens told [] ≡ last ∷ []
    → before ++ rest_tokens told (drop place names) ≡ total → after ≡ before ++ last ∷ [] → after ≡ total
all_told told names place before after total last none ends all wrote =
    wrote ∙ ap (λ rest. before ++ rest) (sym ends)
    ∙ ap (λ left. before ++ rest_tokens told left) (sym (cut_end names place none)) ∙ all

-- ---- some items of a list alone

-- the tokens of what is told of the last items of a list of which something is told, and its bracket
abbrev pub some_tokens : {A : Type 0} → (A → Option Data) → List A → List Token
some_tokens told left = items_tokens (items_outline (items_of (filter_map told left)))
