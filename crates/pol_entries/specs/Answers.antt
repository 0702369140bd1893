-- The answer that an object says: the one whose written form it is.
use Rattle.std.specs.Prelude.{◌≡◌, ◌≢◌, ℕ, List, [], ◌∷◌, codes, true, Bool, Option, Some, None, option_and_then}
use Rattle.std.specs.Prelude.{option_map, Result, Ok, Err, is_some, if◌then◌else◌}
use Rattle.std.specs.Str.{bytes_eq}
use Rattle.serde_json.specs.Data.{Data, Members, no_members, member}
use Rattle.serde_json.specs.Find.{as_bool, as_object, get}
use Rattle.mtp_json.specs.ReadResult.{Finding, ReadResult, here}
use Rattle.mtp_json.specs.declared.fault.FaultKind.TheVariants.{Unsound}
use Rattle.mtp_json.specs.declared.fault.JsonRefusal.{JsonRefusal}
use Rattle.mtp_json.specs.declared.fault.JsonRefusal.TheVariants.{Fault, Memory}
use Rattle.chart_core.specs.declared.entry.LogEntry.{LogEntry}
use Rattle.chart_core.specs.declared.next.Outcome.{Outcome}
use Rattle.chart_core.specs.declared.why.Why.{Why}
use Rattle.pol_events.specs.declared.answer.Answer.{Answer}
use Rattle.pol_events.specs.declared.answer.Answer.TheVariants.{Done, Ticket, Did, Waiting, Closed, Refused}
use Rattle.pol_events.specs.declared.answer.Rule.{Rule}
use Rattle.event_json.specs.Fields.{PlainField, number_field, text_field}
use Rattle.pol_record.specs.Texts.{answer_data, entry_fields, obstacle_fields, outcome_name, refusal_fields}
use Rattle.pol_record.specs.Ranges.{is_in_range}
use Rattle.pol_entries.specs.Candidates.{entry_named, obstacle_named, outcome_named, rule_numbered}
use Rattle.pol_entries.specs.Compared.{is_object, is_there, same_bit}
use Rattle.pol_entries.specs.Found.{lookup_in, number_at, text_at}

-- what an object may say, if the object is the one of its fields
abbrev pub checked : {A : Type 0} → (A → List PlainField) → Data → Option A → Option A
checked fields value None = None
checked fields value (Some told) = if is_object (fields told) value then Some told else None

-- the rule of the refusal that the object says
abbrev pub rule_in : Data → Option Rule
rule_in value = checked refusal_fields value (rule_numbered (number_at (codes "refused") value) (lookup_in value))

-- the entry of a log that the object says
abbrev pub entry_in : Data → Option LogEntry
entry_in value = checked entry_fields value (entry_named (text_at (codes "do") value) (lookup_in value))

-- the obstacle that the object says
abbrev pub obstacle_in : Data → Option Why
obstacle_in value = checked obstacle_fields value (obstacle_named (text_at (codes "wait") value) (lookup_in value))

-- the field of an outcome
abbrev pub closed_fields : Outcome → List PlainField
closed_fields outcome = text_field (codes "closed") (outcome_name outcome) ∷ []

-- the outcome that the object says
abbrev pub outcome_in : Data → Option Outcome
outcome_in value = checked closed_fields value (outcome_named (text_at (codes "closed") value))

-- the field of a ticket
abbrev pub ticket_fields : ℕ → List PlainField
ticket_fields ticket = number_field (codes "ticket") ticket ∷ []

-- the ticket that the object says
abbrev pub ticket_in : Data → Option ℕ
ticket_in value = checked ticket_fields value (Some (number_at (codes "ticket") value))

-- the value of the only member, where it has this key
abbrev pub alone_in : List ℕ → Members → Option Data
alone_in key no_members = None
alone_in key (member other value no_members) = if bytes_eq other key then Some value else None
alone_in key (member other value (member _ _ _)) = None

-- the value in an object that has this key and no other
abbrev pub alone : List ℕ → Data → Option Data
alone key value = option_and_then (alone_in key) (as_object value)

-- the answer Done, where the object says it
abbrev pub done_in : Data → Option Answer
done_in value =
    if is_there (is_there (same_bit true)) (option_map as_bool (alone (codes "done") value)) then Some Done else None

-- the object has the key
abbrev pub has : List ℕ → Data → Bool
has key value = is_some (get key value)

-- the answer that the object says, by the key that is there
abbrev pub answer_in : Data → Option Answer
answer_in value =
    if has (codes "refused") value then option_map Refused (rule_in value)
    else (if has (codes "wait") value then option_map Waiting (obstacle_in value)
    else (if has (codes "closed") value then option_map Closed (outcome_in value)
    else (if has (codes "did") value then option_map Did (option_and_then entry_in (alone (codes "did") value))
    else (if has (codes "ticket") value then option_map Ticket (ticket_in value) else done_in value))))

-- the answer that was found, or that the value is no answer's object
abbrev pub or_unsound : Option Answer → Finding Answer
or_unsound None = Err Unsound
or_unsound (Some answer) = Ok answer

-- the form of an answer's object
unfoldable pub answer_form : Data → ReadResult Answer
answer_form value = here (or_unsound (answer_in value))

-- no answer that a program holds has this object
abbrev pub IsNoAnswer : Data → Type 0
IsNoAnswer value = (answer : Answer) → is_in_range answer ≡ true → value ≢ answer_data answer

-- the refusal is Unsound with the empty path, and the value is no answer's object; or there was no memory
abbrev pub RefusesAnswer : Data → JsonRefusal → Type 0
RefusesAnswer value Memory = Unit {0}
RefusesAnswer value (Fault fault) = (fault ≡ record { kind = Unsound; path = [] }) × IsNoAnswer value

-- the value is the answer's object, or that of no answer
abbrev pub ReadsAnswer : Data → Result Answer JsonRefusal → Type 0
ReadsAnswer value (Ok answer) = value ≡ answer_data answer
ReadsAnswer value (Err refusal) = RefusesAnswer value refusal
