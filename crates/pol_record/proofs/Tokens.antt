-- Tokens of values, and the texts that they print as.
use Rattle.std.proofs.Common.{◌≡◌, ℕ, ℤ, pos, negsuc, refl, true, codes, List, [], ◌∷◌, ◌++◌, append_assoc, map, Option}
use Rattle.std.proofs.Common.{ap, ◌∙◌}
use Rattle.std.specs.Fmt.{signed_decimal}
use Rattle.json.specs.Print.{print}
use Rattle.json.specs.Token as token
use Rattle.json.specs.Token.{Token}
use Rattle.json.specs.Tree.{items_tokens, members_tokens}
use Rattle.serde_json.proofs.OnLiterals.{serde_json_on_literals}
use Rattle.serde_json.proofs.Texts.{print-outline}
use Rattle.serde_json.specs.Data.{Data, boolean, number}
use Rattle.serde_json.specs.Find.{of_integer}
use Rattle.serde_json.specs.View.{items_of}
use Rattle.serde_json.specs.Written.{items_outline, members_outline}
use Rattle.mtp_codes.specs.declared.value.Reading.{Reading}
use Rattle.chart_core.specs.declared.entry.LogEntry.{LogEntry}
use Rattle.chart_core.specs.declared.next.Outcome.{Outcome}
use Rattle.pol_events.specs.declared.event.Bind.{Bind}
use Rattle.event_json.specs.Fields.{PlainField}
use Rattle.event_json.specs.Written.{bind_members}
use Rattle.pol_history.specs.Batches.{Started}
use Rattle.pol_record.specs.Objects.{data_tokens, reading_data, members_in}
use Rattle.pol_record.specs.Verdicts.{place_tokens, wrong_object}
use Rattle.pol_record.specs.Texts.{batch_data, batch_object, course_tokens, end_text, entry_data, line_text}
use Rattle.pol_record.specs.Texts.{start_tokens, under_key, watch_tokens}

-- a whole number, with or without a sign
pub whole_reading : (value : ℤ) → data_tokens (number (of_integer value)) ≡ token.number (signed_decimal value) ∷ []
whole_reading (pos n) = refl
whole_reading (negsuc n) = refl

-- the tokens of the last readings of an array, and its bracket
abbrev pub readings_tokens : List Reading → List Token
readings_tokens values = items_tokens (items_outline (items_of (map reading_data values)))

-- the tokens of the last entries of a log, and its bracket
abbrev pub entries_tokens : List LogEntry → List Token
entries_tokens entries = items_tokens (items_outline (items_of (map entry_data entries)))

-- the tokens of the last fields of an object, and its bracket
abbrev pub fields_tokens : List PlainField → List Token
fields_tokens fields = members_tokens (members_outline (members_in fields))

-- the tokens of the last binds of an object, and its bracket
abbrev pub binds_tokens : List Bind → List Token
binds_tokens binds = members_tokens (members_outline (bind_members binds))

-- two items behind others
pub two_behind : {X : Type 0} (items : List X) (next last : X) → (items ++ next ∷ []) ++ last ∷ [] ≡ items
    ++ next ∷ last ∷ []
two_behind items next last = append_assoc items (next ∷ []) (last ∷ [])

-- the tokens of a value behind a front part, and a line feed, are the front part and the line
pub line_of_tokens : (front : List ℕ) (value : Data) →
    (front ++ print (data_tokens value)) ++ 10 ∷ [] ≡ front ++ line_text value
line_of_tokens front value =
    append_assoc front (print (data_tokens value)) (10 ∷ []) ∙ ap (λ text. front ++ (text ++ 10 ∷ []))
    (print-outline value)

-- the line of Done
pub done_text : line_text (under_key (codes "done") (boolean true)) ≡ codes "{\"done\":true}\n"
unfolding serde_json_on_literals under_key
done_text = refl

-- the last line
pub end_line_text : end_text ≡ codes "{\"end\":true}\n"
unfolding serde_json_on_literals under_key
end_line_text = refl

-- whatever stands before them, six parts may be grouped from either end
grouped : (old front start course watch behind : List Token) →
    ((((old ++ front) ++ start) ++ course) ++ watch) ++ behind
    ≡ old ++ (front ++ (start ++ (course ++ (watch ++ behind))))
grouped old front start course watch behind = simp append_assoc refl

-- the tokens of a batch, by its parts
parts_of_batch : (batch recipe : List ℕ) (held watched : List Bind) (log : List LogEntry)
    (outcome : Option Outcome) →
    token.begin_object ∷ (start_tokens batch held ++ (course_tokens log outcome recipe ++ (watch_tokens watched
    ++ token.end_object ∷ [])))
    ≡ data_tokens (batch_data batch
    (record { recipe = recipe; binds = record { held = held; watched = watched } }) log outcome)
unfolding batch_object
parts_of_batch batch recipe held [] log outcome = simp append_assoc refl
parts_of_batch batch recipe held (bind ∷ watched) log outcome = simp append_assoc refl

-- a bracket, the start, the course, what is watched and a bracket behind other tokens are the tokens of a batch
pub batch_tokens : (old : List Token) (batch : List ℕ) (started : Started) (log : List LogEntry)
    (outcome : Option Outcome) →
    ((((old ++ token.begin_object ∷ []) ++ start_tokens batch started.binds.held)
    ++ course_tokens log outcome started.recipe)
    ++ watch_tokens started.binds.watched)
    ++ token.end_object
    ∷ []
    ≡ old ++ data_tokens (batch_data batch started log outcome)
batch_tokens old batch started log outcome =
    grouped old (token.begin_object ∷ []) (start_tokens batch started.binds.held)
    (course_tokens log outcome started.recipe) (watch_tokens started.binds.watched) (token.end_object ∷ [])
    ∙ ap (λ tokens. old ++ tokens)
    (parts_of_batch batch started.recipe started.binds.held started.binds.watched log outcome)

-- a bracket, the place, the right answer, the reason and a bracket behind other tokens are the tokens of a wrong answer
pub wrong_tokens : (old : List Token) (place : ℕ) (says : Data) →
    ((((old ++ token.begin_object ∷ []) ++ place_tokens place) ++ token.key (codes "says") ∷ data_tokens says)
    ++ token.key (codes "why")
    ∷ token.string (codes "Answer")
    ∷ [])
    ++ token.end_object
    ∷ []
    ≡ old ++ data_tokens (wrong_object place says)
unfolding wrong_object
wrong_tokens old place says = simp append_assoc refl
