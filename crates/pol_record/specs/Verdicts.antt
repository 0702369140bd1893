-- The verdict of an audit, as a line.
use Rattle.std.specs.Prelude.{ℕ, List, [], ◌∷◌, codes, decimal}
use Rattle.json.specs.Token as token
use Rattle.json.specs.Token.{Token}
use Rattle.serde_json.specs.Data.{Data, number, string, unsigned, object, member, no_members}
use Rattle.event_json.specs.Fields.{PlainField, number_field, text_field}
use Rattle.pol_record.specs.Objects.{fields_data}
use Rattle.pol_record.specs.Texts.{answer_data, line_text}
use Rattle.pol_record.specs.declared.verdicts.Verdict.{Verdict}
use Rattle.pol_record.specs.declared.verdicts.Verdict.TheVariants.{Good, WrongAnswer, TooMany, WrongTail}

-- the fields of a good verdict
abbrev pub good_fields : ℕ → List PlainField
good_fields entries = text_field (codes "audit") (codes "good") ∷ number_field (codes "entries") entries ∷ []

-- the fields of a bad verdict: the place, and what is wrong there
abbrev pub bad_fields : ℕ → List ℕ → List PlainField
bad_fields place why =
    text_field (codes "audit") (codes "bad") ∷ number_field (codes "place") place ∷ text_field (codes "why") why ∷ []

-- a wrong answer: its place, and the right one
unfoldable pub wrong_object : ℕ → Data → Data
wrong_object place says = object
    (member (codes "audit") (string (codes "bad"))
    (member (codes "place") (number (unsigned place))
    (member (codes "says") says
    (member (codes "why") (string (codes "Answer")) no_members))))

-- the tokens of a bad verdict's place
abbrev pub place_tokens : ℕ → List Token
place_tokens place =
    token.key (codes "audit") ∷ token.string (codes "bad") ∷ token.key (codes "place") ∷ token.number
    (decimal place) ∷ []

-- a verdict as JSON
abbrev pub verdict_data : Verdict → Data
verdict_data (Good entries) = fields_data (good_fields entries)
verdict_data (WrongAnswer place says) = wrong_object place (answer_data says)
verdict_data (TooMany place) = fields_data (bad_fields place (codes "TooMany"))
verdict_data (WrongTail place) = fields_data (bad_fields place (codes "Tail"))

-- the line of a verdict
abbrev pub verdict_text : Verdict → List ℕ
verdict_text verdict = line_text (verdict_data verdict)
