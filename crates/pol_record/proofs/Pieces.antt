-- The line of an entry of a history, piece by piece.
use Rattle.std.proofs.Common.{◌≡◌, ℕ, codes, List, [], ◌∷◌, ◌++◌, append_assoc, refl, ap, sym, ◌∙◌}
use Rattle.json.specs.Print.{print}
use Rattle.serde_json.proofs.OnLiterals.{serde_json_on_literals}
use Rattle.serde_json.proofs.Texts.{print-outline}
use Rattle.serde_json.specs.Data.{Data}
use Rattle.serde_json.specs.Written.{compact_text}
use Rattle.pol_record.specs.Objects.{data_tokens}
use Rattle.pol_record.specs.Texts.{entry_object, line_text}

-- the tokens of a value print as its text
pub printed : (value : Data) → print (data_tokens value) ≡ compact_text value
printed value = print-outline value

-- the text of an answer and an event
pub entry_text : (answer event : Data) → compact_text (entry_object answer event)
    ≡ codes "{\"answer\":" ++ (compact_text answer ++ (codes ",\"event\":" ++ (compact_text event ++ codes "}")))
unfolding serde_json_on_literals entry_object
entry_text answer event = refl

-- pieces one behind the other
regrouped : (front before answer between event behind : List ℕ) →
    ((((front ++ before) ++ answer) ++ between) ++ event) ++ (behind ++ 10 ∷ [])
    ≡ front ++ ((before ++ (answer ++ (between ++ (event ++ behind)))) ++ 10 ∷ [])
regrouped front before answer between event behind = simp append_assoc refl

-- so is the line
pub entry_pieces : (front : List ℕ) (answer event : Data) →
    ((((front ++ codes "{\"answer\":") ++ compact_text answer) ++ codes ",\"event\":") ++ compact_text event)
    ++ codes "}\n"
    ≡ front ++ line_text (entry_object answer event)
entry_pieces front answer event =
    regrouped front (codes "{\"answer\":") (compact_text answer) (codes ",\"event\":") (compact_text event)
    (codes "}")
    ∙ ap (λ text. front ++ (text ++ 10 ∷ [])) (sym (entry_text answer event))
