-- What is written of an answer is exact, where it is one that a program holds.
use Rattle.std.proofs.Common.{◌≡◌, ◌≤◌, [], ◌∷◌, ◌++◌, List, Bool, true, refl, arith, codes}
use Rattle.std.proofs.lemmas.Bool.{and_parts}
use Rattle.std.specs.List.{list_all}
use Rattle.std.proofs.lemmas.Str.{IsUtf8-append}
use Rattle.json.proofs.Printed.Utf8.{IsUtf8-are_ascii}
use Rattle.serde_json.specs.Data.{Data, depth, no_members}
use Rattle.serde_json.specs.Written.{compact_text}
use Rattle.serde_json.proofs.OnLiterals.{serde_json_on_literals}
use Rattle.mtp_codes.specs.Names.{is_name}
use Rattle.chart_core.specs.declared.entry.LogEntry.{LogEntry}
use Rattle.chart_core.specs.declared.entry.LogEntry.TheVariants.{StopAsked}
use Rattle.chart_core.specs.declared.next.Outcome.{Outcome}
use Rattle.chart_core.specs.declared.next.Outcome.TheVariants.{Completed}
use Rattle.chart_core.specs.declared.why.Why.{Why}
use Rattle.chart_core.specs.declared.why.Why.TheVariants.{Frozen}
use Rattle.event_json.specs.Fields.{PlainField, in_order, number, number_field, text_field}
use Rattle.pol_events.specs.declared.answer.Answer.{Answer}
use Rattle.pol_events.specs.declared.answer.Answer.TheVariants.{Done, Ticket, Did, Waiting, Closed, Refused}
use Rattle.pol_events.specs.declared.answer.Rule.{Rule}
use Rattle.pol_events.specs.declared.answer.Rule.TheVariants.{TagTaken}
use Rattle.pol_record.specs.Objects.{members_in}
use Rattle.pol_record.specs.Rows.{entry_row, obstacle_row}
use Rattle.pol_record.specs.Texts.{answer_data, entry_data, entry_fields, obstacle_fields, refusal_fields, outcome_name}
use Rattle.pol_record.specs.Texts.{under_key}
use Rattle.pol_entries.specs.Answers.{closed_fields, ticket_fields}
use Rattle.event_json.specs.RuleTable.{rule_row}
use Rattle.event_json.specs.FieldRanges.{are_in_range, is_value_in_range}
use Rattle.pol_record.specs.Ranges.{is_in_range, is_start_in_range}
use Rattle.pol_retold.specs.Told.{AnswersAreExact}
use Rattle.pol_retold.proofs.Exact.{IsSound, sound_exact}
use Rattle.pol_retold.proofs.Fields.{AreInRange, fields_depth, fields_sound, put_fields}

-- the keys of these fields are names
abbrev are_named : List PlainField → Bool
are_named fields = list_all (λ field. is_name field.key) fields

-- the keys of these fields rise, once they are in order
abbrev Rises : List PlainField → Type 0
Rises fields = put_fields (in_order fields) no_members ≡ members_in (in_order fields)

-- ---- the tables

-- the keys of a refusal are names, and each stands once
rule_keys : (rule : Rule) → (are_named (rule_row rule).fields ≡ true)
    × (is_name (rule_row rule).name ≡ true)
    × (is_value_in_range (number (rule_row rule).number) ≡ true)
    × Rises (refusal_fields rule)
rule_keys TagTaken = (refl, refl, refl, refl)
rule_keys _ = (refl, refl, refl, refl)

-- the keys of an entry of a log are names, and each stands once
entry_keys : (entry : LogEntry) → (are_named (entry_row entry).fields ≡ true)
    × (is_name (entry_row entry).name ≡ true)
    × Rises (entry_fields entry)
entry_keys StopAsked = (refl, refl, refl)
entry_keys _ = (refl, refl, refl)

-- the keys of an obstacle are names, and each stands once
obstacle_keys : (obstacle : Why) → (are_named (obstacle_row obstacle).fields ≡ true)
    × (is_name (obstacle_row obstacle).name ≡ true)
    × Rises (obstacle_fields obstacle)
obstacle_keys Frozen = (refl, refl, refl)
obstacle_keys _ = (refl, refl, refl)

-- the name of an outcome is a name
outcome_named : (outcome : Outcome) → is_name (outcome_name outcome) ≡ true
outcome_named Completed = refl
outcome_named _ = refl

-- ---- fields

-- fields whose keys are names and whose values are in range, and then others, are in range
held_with : (fields more : List PlainField) → are_named fields ≡ true → are_in_range fields ≡ true → AreInRange more
    → AreInRange (fields ++ more)
held_with [] more named held rest = rest
held_with (field ∷ fields) more named held rest =
    let name = and_parts (is_name field.key) (are_named fields) named in
    let value = and_parts (is_value_in_range field.value) (are_in_range fields) held in
    (rw (name.0, value.0) refl, held_with fields more name.1 value.1 rest)

-- ---- answers

-- a refusal in range is sound
rule_sound : (rule : Rule) → are_in_range (rule_row rule).fields ≡ true → IsSound (answer_data (Refused rule))
rule_sound rule held =
    let keys = rule_keys rule in
    fields_sound (refusal_fields rule)
    (held_with (rule_row rule).fields
    (text_field (codes "rule") (rule_row rule).name ∷ number_field (codes "refused") (rule_row rule).number ∷ [])
    keys.0 held (keys.1, (keys.2, tt)))
    keys.3

-- an entry of a log in range is sound
entry_sound : (entry : LogEntry) → are_in_range (entry_row entry).fields ≡ true → IsSound (entry_data entry)
entry_sound entry held =
    let keys = entry_keys entry in
    fields_sound (entry_fields entry)
    (held_with (entry_row entry).fields (text_field (codes "do") (entry_row entry).name ∷ []) keys.0 held (keys.1, tt))
    keys.2

-- an obstacle in range is sound
obstacle_sound : (obstacle : Why) → are_in_range (obstacle_row obstacle).fields ≡ true
    → IsSound (answer_data (Waiting obstacle))
obstacle_sound obstacle held =
    let keys = obstacle_keys obstacle in
    fields_sound (obstacle_fields obstacle)
    (held_with (obstacle_row obstacle).fields (text_field (codes "wait") (obstacle_row obstacle).name ∷ []) keys.0 held
    (keys.1, tt))
    keys.2

-- the object of a sound value under this key is sound
did_sound : (value : Data) → IsSound value → IsSound (under_key (codes "did") value)
unfolding under_key serde_json_on_literals
did_sound value sound =
    record {
      utf8 = IsUtf8-append (codes "{\"did\":") _ (IsUtf8-are_ascii (codes "{\"did\":") refl)
          (IsUtf8-append (compact_text value) _ sound.utf8 (IsUtf8-are_ascii (codes "}") refl));
      numbers = (sound.numbers, tt);
      again = rw sound.again refl;
    }

-- that a thing is done is sound
done_sound : IsSound (answer_data Done)
unfolding under_key serde_json_on_literals
done_sound = record { utf8 = IsUtf8-are_ascii (compact_text (answer_data Done)) refl; numbers = (tt, tt); again = refl }

-- an answer that a program holds is sound
pub answer_sound : (answer : Answer) → is_in_range answer ≡ true → IsSound (answer_data answer)
answer_sound Done held = done_sound
answer_sound (Ticket ticket) held = fields_sound (ticket_fields ticket) (rw held refl, tt) refl
answer_sound (Did entry) held =
    did_sound (entry_data entry)
    (entry_sound entry (and_parts (are_in_range (entry_row entry).fields) (is_start_in_range entry) held).0)
answer_sound (Waiting obstacle) held = obstacle_sound obstacle held
answer_sound (Closed outcome) held =
    fields_sound (closed_fields outcome) (rw (outcome_named outcome) refl, tt) refl
answer_sound (Refused rule) held = rule_sound rule held

-- an answer nests four deep at most
pub answer_depth : (answer : Answer) → depth (answer_data answer) ≤ 4
unfolding under_key
answer_depth Done = omega arith
answer_depth (Ticket ticket) = let few = fields_depth (ticket_fields ticket) in omega (arith, few)
answer_depth (Did entry) = let few = fields_depth (entry_fields entry) in omega (arith, few)
answer_depth (Waiting obstacle) = let few = fields_depth (obstacle_fields obstacle) in omega (arith, few)
answer_depth (Closed outcome) = let few = fields_depth (closed_fields outcome) in omega (arith, few)
answer_depth (Refused rule) = let few = fields_depth (refusal_fields rule) in omega (arith, few)

-- what is written of an answer is exact
pub answers_exact : AnswersAreExact
answers_exact answer held =
    let few = answer_depth answer in sound_exact (answer_data answer) (omega (arith, few)) (answer_sound answer held)
