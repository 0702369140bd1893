-- The text of an entry, piece by piece.
use Rattle.std.proofs.Common.{◌≡◌, ◌-◌, ℕ, false, codes, List, [], ◌∷◌, ◌++◌, Option, Some, None, length}
use Rattle.std.proofs.Common.{append_assoc, append-nil, suc, take, refl, arith, ap, sym, ◌∙◌}
use Rattle.json.specs.Print.{print}
use Rattle.json.specs.Token as token
use Rattle.serde_json.proofs.OnLiterals.{serde_json_on_literals}
use Rattle.serde_json.specs.Data.{Data, string}
use Rattle.serde_json.specs.Written.{comma_if, compact_text}
use Rattle.pol_record.proofs.Pieces.{printed}
use Rattle.pol_overview.specs.Entries.{person_text, told_object}

-- the last of a list taken away
short : (xs : List ℕ) (last : ℕ) → take (length (xs ++ last ∷ []) - 1) (xs ++ last ∷ []) ≡ xs
short [] last = refl
short (x ∷ []) last = refl
short (x ∷ y ∷ xs) last =
    let more : length (x ∷ y ∷ (xs ++ last ∷ [])) - 1 ≡ suc (length (y ∷ (xs ++ last ∷ [])) - 1) = omega arith in
    ap (λ count. take count (x ∷ y ∷ (xs ++ last ∷ []))) more ∙ ap (λ rest. x ∷ rest) (short (y ∷ xs) last)

-- a line without its line feed
pub unended : (old text items new : List ℕ) → items ≡ old ++ (text ++ 10 ∷ []) → new ≡ take (length items - 1) items
    → new ≡ old ++ text
unended old text items new is left =
    left ∙ ap (λ items. take (length items - 1) items) (is ∙ sym (append_assoc old text (10 ∷ [])))
    ∙ short (old ++ text) 10

-- a text is written so
pub name_printed : (name : List ℕ) → print (token.string name ∷ []) ≡ compact_text (string name)
name_printed name = printed (string name)

-- no comma
pub no_comma : (old : List ℕ) → old ≡ old ++ comma_if false
no_comma old = sym (append-nil old)

-- nobody is named
pub no_person : (old : List ℕ) → old ≡ old ++ person_text None
no_person old = sym (append-nil old)

-- somebody is
pub person_pieces : (old person : List ℕ) → (old ++ codes ",\"by\":") ++ compact_text (string person)
    ≡ old ++ person_text (Some person)
person_pieces old person = append_assoc old (codes ",\"by\":") (compact_text (string person))

-- the text of an entry by its pieces
told_text : (answer event : Data) (person : Option (List ℕ)) → compact_text (told_object answer person event)
    ≡ codes "{\"answer\":"
    ++ (compact_text answer ++ (person_text person ++ (codes ",\"event\":" ++ (compact_text event ++ codes "}"))))
unfolding serde_json_on_literals told_object
told_text answer event None = refl
told_text answer event (Some person) = refl

-- pieces one behind the other
regrouped : (front before answer person between event behind : List ℕ) →
    (((((front ++ before) ++ answer) ++ person) ++ between) ++ event) ++ behind
    ≡ front ++ (before ++ (answer ++ (person ++ (between ++ (event ++ behind)))))
regrouped front before answer person between event behind = simp append_assoc refl

-- so is an entry
pub told_pieces : (front : List ℕ) (answer event : Data) (person : Option (List ℕ)) →
    (((((front ++ codes "{\"answer\":") ++ compact_text answer) ++ person_text person) ++ codes ",\"event\":")
    ++ compact_text event)
    ++ 125
    ∷ []
    ≡ front ++ compact_text (told_object answer person event)
told_pieces front answer event person =
    regrouped front (codes "{\"answer\":") (compact_text answer) (person_text person) (codes ",\"event\":")
    (compact_text event) (125 ∷ [])
    ∙ ap (λ text. front ++ text) (sym (told_text answer event person))
