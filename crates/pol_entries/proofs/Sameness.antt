-- Two answers are the same where their kinds and their fields are.
use Rattle.std.proofs.Common.{◌≡◌, ◌<◌, ◌∷◌, [], ℕ, List, Bool, true, false, Option, Some, cond, arith, length, map}
use Rattle.std.proofs.Common.{refl, sym, ap, ◌∙◌, codes}
use Rattle.std.proofs.lemmas.Bool.{and_parts}
use Rattle.std.proofs.lemmas.Bool.Decides.{Decides-eqb, Decides-int_eq}
use Rattle.std.proofs.lemmas.Slice.Eq.{bytes_eq-Decides}
use Rattle.std.specs.Bool.{Decides}
use Rattle.std.specs.Prelude.{unwrap_or}
use Rattle.std.specs.Str.{bytes_eq}
use Rattle.mtp_codes.specs.Codes.{command_codes, command_number, command_of, state_codes, state_number, state_of}
use Rattle.mtp_codes.specs.declared.command.Command.{Command}
use Rattle.mtp_codes.specs.declared.command.Command.TheVariants as command
use Rattle.mtp_codes.specs.declared.mode.Forbid.TheVariants as forbid
use Rattle.mtp_codes.specs.declared.state.State.{State}
use Rattle.mtp_codes.specs.declared.state.State.TheVariants as state
use Rattle.mtp_codes.specs.declared.value.Reading.{Reading}
use Rattle.mtp_codes.specs.declared.value.Reading.TheVariants.{Whole, Bit}
use Rattle.mtp_json.specs.Leaf.{meaning_of}
use Rattle.chart_core.specs.declared.entry.LogEntry.{LogEntry}
use Rattle.chart_core.specs.declared.entry.LogEntry.TheVariants as entry
use Rattle.chart_core.specs.declared.next.Outcome.{Outcome}
use Rattle.chart_core.specs.declared.next.Outcome.TheVariants.{Completed, Broken, Stopped, Abandoned}
use Rattle.chart_core.specs.declared.why.Why.{Why}
use Rattle.chart_core.specs.declared.why.Why.TheVariants as why
use Rattle.pol_events.specs.declared.answer.Answer.{Answer}
use Rattle.pol_events.specs.declared.answer.Answer.TheVariants.{Done, Ticket, Did, Waiting, Closed, Refused}
use Rattle.pol_events.specs.declared.answer.Rule.{Rule}
use Rattle.pol_events.specs.declared.answer.Rule.TheVariants.{TagTaken, NoModule, PlantFull, Held, InExchange}
use Rattle.pol_events.specs.declared.answer.Rule.TheVariants.{NotInExchange, WrongTicket, NoService, NotAnEdge}
use Rattle.pol_events.specs.declared.answer.Rule.TheVariants.{NoVariable, WrongKind, RecipeKnown, NoRecipe, BatchKnown}
use Rattle.pol_events.specs.declared.answer.Rule.TheVariants.{NoBatch, BatchClosed, RoleUnbound, RoleUnknown}
use Rattle.pol_events.specs.declared.answer.Rule.TheVariants.{OneModuleTwice, WrongType, WrongVersion, NotCovered}
use Rattle.pol_events.specs.declared.answer.Rule.TheVariants.{NotReported, NotIdle, Busy, BatchesFull, NotAtRest}
use Rattle.pol_events.specs.declared.answer.Rule.TheVariants.{ActiveStep, HeldBack, ModeForbids, StateForbids}
use Rattle.pol_events.specs.declared.answer.Rule.TheVariants.{NotEnabled, OutOfRange, NotFrozen, AlreadyFrozen}
use Rattle.pol_events.specs.declared.answer.Rule.TheVariants.{SelfCompletes, RecipesFull, HistoryFull, Watched}
use Rattle.pol_events.specs.declared.answer.Rule.TheVariants.{WatchedStep}
use Rattle.event_json.specs.Fields.{PlainField, PlainFieldValue, plain_field, number, readings, text}
use Rattle.event_json.specs.declared.fields.Field.{Field}
use Rattle.pol_record.specs.Texts.{entry_fields, obstacle_fields, outcome_name, refusal_fields}
use Rattle.pol_entries.specs.Candidates.{entry_named, obstacle_named, outcome_named, rule_numbered}
use Rattle.pol_entries.specs.Compared.{same_bit}
use Rattle.pol_entries.specs.Found.{Lookup, forbid_words}
use Rattle.pol_entries.specs.Same.{same_answer, same_field, same_fields, same_reading, same_readings, same_value}
use Rattle.pol_entries.proofs.Again.{forbid_again}

-- ---- fields tell what they are of

-- the text in a value; of another value the empty one
abbrev text_in : PlainFieldValue → List ℕ
text_in (text told) = told
text_in (number told) = []
text_in (readings told) = []

-- the number in a value; of another value zero
abbrev number_in : PlainFieldValue → ℕ
number_in (text told) = 0
number_in (number told) = told
number_in (readings told) = 0

-- the readings in a value; of another value none
abbrev readings_in : PlainFieldValue → List Reading
readings_in (text told) = []
readings_in (number told) = []
readings_in (readings told) = told

-- the value under a key
abbrev value_under : List ℕ → List PlainField → PlainFieldValue
value_under key [] = number 0
value_under key (field ∷ fields) = cond (bytes_eq field.key key) field.value (value_under key fields)

-- what stands under each key of some fields
abbrev lookup_of : List PlainField → Lookup
lookup_of fields =
    record {
      name = λ key. text_in (value_under key fields);
      number = λ key. number_in (value_under key fields);
      half = λ key. number_in (value_under key fields);
      state = λ key. unwrap_or (state_of (number_in (value_under key fields)) state_codes) state.Idle;
      command = λ key. unwrap_or (command_of (number_in (value_under key fields)) command_codes) command.Reset;
      forbid = λ key. unwrap_or (meaning_of (text_in (value_under key fields)) forbid_words) forbid.NotEnabled;
      readings = λ key. readings_in (value_under key fields);
    }

-- the number of a state tells the state
state_told : (each : State) → unwrap_or (state_of (state_number each) state_codes) state.Idle ≡ each
state_told state.Stopped = refl
state_told state.Starting = refl
state_told state.Idle = refl
state_told state.Paused = refl
state_told state.Execute = refl
state_told state.Stopping = refl
state_told state.Aborting = refl
state_told state.Aborted = refl
state_told state.Holding = refl
state_told state.Held = refl
state_told state.Unholding = refl
state_told state.Pausing = refl
state_told state.Resuming = refl
state_told state.Resetting = refl
state_told state.Completing = refl
state_told state.Completed = refl

-- the number of a command tells the command
command_told : (each : Command) → unwrap_or (command_of (command_number each) command_codes) command.Reset ≡ each
command_told command.Reset = refl
command_told command.Start = refl
command_told command.Stop = refl
command_told command.Hold = refl
command_told command.Unhold = refl
command_told command.Pause = refl
command_told command.Resume = refl
command_told command.Abort = refl
command_told command.Restart = refl
command_told command.Complete = refl

-- the rule of a refusal's fields
abbrev rule_of : List PlainField → Option Rule
rule_of fields = rule_numbered (number_in (value_under (codes "refused") fields)) (lookup_of fields)

-- the fields of a refusal tell its rule
rule_told : (rule : Rule) → rule_of (refusal_fields rule) ≡ Some rule
rule_told TagTaken = refl
rule_told (NoModule tag) = refl
rule_told PlantFull = refl
rule_told (Held batch) = refl
rule_told (InExchange tag ticket) = refl
rule_told NotInExchange = refl
rule_told (WrongTicket kept given) = refl
rule_told NoService = refl
rule_told (NotAnEdge from to) = rw (state_told from, state_told to) refl
rule_told NoVariable = refl
rule_told WrongKind = refl
rule_told RecipeKnown = refl
rule_told NoRecipe = refl
rule_told BatchKnown = refl
rule_told NoBatch = refl
rule_told BatchClosed = refl
rule_told (RoleUnbound role) = refl
rule_told (RoleUnknown role) = refl
rule_told (OneModuleTwice tag) = refl
rule_told (WrongType role) = refl
rule_told (WrongVersion role) = refl
rule_told (NotCovered missing) = refl
rule_told (NotReported tag named) = refl
rule_told (NotIdle tag service state) = rw (state_told state) refl
rule_told (Busy tag batch) = refl
rule_told BatchesFull = refl
rule_told (NotAtRest service state) = rw (state_told state) refl
rule_told (ActiveStep batch step) = refl
rule_told (HeldBack batch missing) = refl
rule_told ModeForbids = refl
rule_told StateForbids = refl
rule_told NotEnabled = refl
rule_told OutOfRange = refl
rule_told NotFrozen = refl
rule_told AlreadyFrozen = refl
rule_told SelfCompletes = refl
rule_told RecipesFull = refl
rule_told HistoryFull = refl
rule_told (Watched batch) = refl
rule_told (WatchedStep role) = refl

-- the entry of its fields
abbrev entry_of : List PlainField → Option LogEntry
entry_of fields = entry_named (text_in (value_under (codes "do") fields)) (lookup_of fields)

-- the fields of a log entry tell the entry
entry_told : (each : LogEntry) → entry_of (entry_fields each) ≡ Some each
entry_told (entry.Start step tag service procedure) = refl
entry_told (entry.Finish step tag service) = refl
entry_told (entry.Reset step tag service) = refl
entry_told (entry.End step) = refl
entry_told (entry.Chose node arm values) = refl
entry_told (entry.Turn node values) = refl
entry_told (entry.Leave node values) = refl
entry_told (entry.Stop step tag service) = refl
entry_told (entry.Broke step state) = rw (state_told state) refl
entry_told (entry.Left step state) = rw (state_told state) refl
entry_told entry.StopAsked = refl
entry_told (entry.Hold step tag service) = refl
entry_told (entry.Unhold step tag service) = refl
entry_told (entry.Asked tag service command) = rw (command_told command) refl

-- the obstacle of its fields
abbrev obstacle_of : List PlainField → Option Why
obstacle_of fields = obstacle_named (text_in (value_under (codes "wait") fields)) (lookup_of fields)

-- the fields of an obstacle tell the obstacle
obstacle_told : (each : Why) → obstacle_of (obstacle_fields each) ≡ Some each
obstacle_told why.Frozen = refl
obstacle_told (why.Away tag) = refl
obstacle_told (why.NotReported tag named) = refl
obstacle_told (why.InState step state) = rw (state_told state) refl
obstacle_told (why.Forbidden step by) = rw (forbid_again by) refl
obstacle_told (why.Unmet step) = refl
obstacle_told (why.NoArm node) = refl

-- the name of an outcome tells the outcome
outcome_told : (each : Outcome) → outcome_named (outcome_name each) ≡ Some each
outcome_told Completed = refl
outcome_told Broken = refl
outcome_told Stopped = refl
outcome_told Abandoned = refl

-- two values of which the same is said are the same, where each value is found again by what is said of it
told_apart : {A B : Type 0} (told : A → B) (back : B → Option A) → ((x : A) → back (told x) ≡ Some x) → (x y : A)
    → told x ≡ told y → x ≡ y
told_apart told back again x y same = let both : Some x ≡ Some y = sym (again x) ∙ ap back same ∙ again y in cc

-- ---- fields that are compared equal are equal

-- bits that are compared equal are equal
bit_is : (bit other : Bool) → same_bit bit other ≡ true → bit ≡ other
bit_is true true same = refl
bit_is true false same = absurd cc
bit_is false true same = absurd cc
bit_is false false same = refl

-- readings that are compared equal are equal
reading_is : (reading other : Reading) → same_reading reading other ≡ true → reading ≡ other
reading_is (Whole z) (Whole y) same = ap Whole ((Decides-int_eq z y).0 same)
reading_is (Whole z) (Bit bit) same = absurd cc
reading_is (Bit bit) (Whole z) same = absurd cc
reading_is (Bit bit) (Bit other) same = ap Bit (bit_is bit other same)

-- lists of readings that are compared equal are equal
readings_are : (told others : List Reading) → same_readings told others ≡ true → told ≡ others
readings_are [] [] same = refl
readings_are [] (other ∷ others) same = absurd cc
readings_are (reading ∷ told) [] same = absurd cc
readings_are (reading ∷ told) (other ∷ others) same =
    let both = and_parts (same_reading reading other) (same_readings told others) same in
    rw (reading_is reading other both.0, readings_are told others both.1) refl

-- values of fields that are compared equal are equal
value_is : (told other : PlainFieldValue) → same_value told other ≡ true → told ≡ other
value_is (text told) (text other) same = ap text ((bytes_eq-Decides told other).0 same)
value_is (text told) (number other) same = absurd cc
value_is (text told) (readings other) same = absurd cc
value_is (number told) (text other) same = absurd cc
value_is (number told) (number other) same = ap number ((Decides-eqb told other).0 same)
value_is (number told) (readings other) same = absurd cc
value_is (readings told) (text other) same = absurd cc
value_is (readings told) (number other) same = absurd cc
value_is (readings told) (readings other) same = ap readings (readings_are told other same)

-- fields that are compared equal are equal
field_is : (told other : PlainField) → same_field told other ≡ true → told ≡ other
field_is told other same =
    let both = and_parts (bytes_eq told.key other.key) (same_value told.value other.value) same in
    let key_is : told.key ≡ other.key = (bytes_eq-Decides told.key other.key).0 both.0 in
    let its : told.value ≡ other.value = value_is told.value other.value both.1 in
    λ i. record { key = key_is i; value = its i }

-- lists of fields that are compared equal are equal
fields_are : (told others : List PlainField) → same_fields told others ≡ true → told ≡ others
fields_are [] [] same = refl
fields_are [] (other ∷ others) same = absurd cc
fields_are (field ∷ told) [] same = absurd cc
fields_are (field ∷ told) (other ∷ others) same =
    let both = and_parts (same_field field other) (same_fields told others) same in
    rw (field_is field other both.0, fields_are told others both.1) refl

-- ---- and equal ones are

-- a bit is compared equal to itself
bit_same : (bit : Bool) → same_bit bit bit ≡ true
bit_same true = refl
bit_same false = refl

-- a reading is compared equal to itself
reading_same : (reading : Reading) → same_reading reading reading ≡ true
reading_same (Whole z) = (Decides-int_eq z z).1 refl
reading_same (Bit bit) = bit_same bit

-- a list of readings is compared equal to itself
readings_same : (told : List Reading) → same_readings told told ≡ true
readings_same [] = refl
readings_same (reading ∷ told) = rw (reading_same reading, readings_same told) refl

-- the value of a field is compared equal to itself
value_same : (told : PlainFieldValue) → same_value told told ≡ true
value_same (text told) = (bytes_eq-Decides told told).1 refl
value_same (number told) = (Decides-eqb told told).1 refl
value_same (readings told) = readings_same told

-- a list of fields is compared equal to itself
fields_same : (told : List PlainField) → same_fields told told ≡ true
fields_same [] = refl
fields_same (field ∷ told) =
    rw ((bytes_eq-Decides field.key field.key).1 refl, value_same field.value, fields_same told) refl

-- ---- where one of two lists is at its end

-- readings that are left aren't the same as none
pub readings_left : (told : List Reading) → 0 < length told → false ≡ same_readings told []
readings_left [] some = absurd (omega arith)
readings_left (reading ∷ told) some = refl

-- nor are fields
pub fields_left : (told : List Field) → 0 < length told → false ≡ same_fields (map plain_field told) []
fields_left [] some = absurd (omega arith)
fields_left (field ∷ told) some = refl

-- ---- answers

-- answers that are compared equal are equal
answer_is : (answer other : Answer) → same_answer answer other ≡ true → answer ≡ other
answer_is Done Done same = refl
answer_is Done (Ticket other) same = absurd cc
answer_is Done (Did other) same = absurd cc
answer_is Done (Waiting other) same = absurd cc
answer_is Done (Closed other) same = absurd cc
answer_is Done (Refused other) same = absurd cc
answer_is (Ticket ticket) Done same = absurd cc
answer_is (Ticket ticket) (Ticket other) same = ap Ticket ((Decides-eqb ticket other).0 same)
answer_is (Ticket ticket) (Did other) same = absurd cc
answer_is (Ticket ticket) (Waiting other) same = absurd cc
answer_is (Ticket ticket) (Closed other) same = absurd cc
answer_is (Ticket ticket) (Refused other) same = absurd cc
answer_is (Did each) Done same = absurd cc
answer_is (Did each) (Ticket other) same = absurd cc
answer_is (Did each) (Did other) same =
    ap Did (told_apart entry_fields entry_of entry_told each other
    (fields_are (entry_fields each) (entry_fields other) same))
answer_is (Did each) (Waiting other) same = absurd cc
answer_is (Did each) (Closed other) same = absurd cc
answer_is (Did each) (Refused other) same = absurd cc
answer_is (Waiting obstacle) Done same = absurd cc
answer_is (Waiting obstacle) (Ticket other) same = absurd cc
answer_is (Waiting obstacle) (Did other) same = absurd cc
answer_is (Waiting obstacle) (Waiting other) same =
    ap Waiting (told_apart obstacle_fields obstacle_of obstacle_told obstacle other
    (fields_are (obstacle_fields obstacle) (obstacle_fields other) same))
answer_is (Waiting obstacle) (Closed other) same = absurd cc
answer_is (Waiting obstacle) (Refused other) same = absurd cc
answer_is (Closed outcome) Done same = absurd cc
answer_is (Closed outcome) (Ticket other) same = absurd cc
answer_is (Closed outcome) (Did other) same = absurd cc
answer_is (Closed outcome) (Waiting other) same = absurd cc
answer_is (Closed outcome) (Closed other) same =
    ap Closed (told_apart outcome_name outcome_named outcome_told outcome other
    ((bytes_eq-Decides (outcome_name outcome) (outcome_name other)).0 same))
answer_is (Closed outcome) (Refused other) same = absurd cc
answer_is (Refused rule) Done same = absurd cc
answer_is (Refused rule) (Ticket other) same = absurd cc
answer_is (Refused rule) (Did other) same = absurd cc
answer_is (Refused rule) (Waiting other) same = absurd cc
answer_is (Refused rule) (Closed other) same = absurd cc
answer_is (Refused rule) (Refused other) same =
    ap Refused (told_apart refusal_fields rule_of rule_told rule other
    (fields_are (refusal_fields rule) (refusal_fields other) same))

-- an answer is compared equal to itself
answer_same : (answer : Answer) → same_answer answer answer ≡ true
answer_same Done = refl
answer_same (Ticket ticket) = (Decides-eqb ticket ticket).1 refl
answer_same (Did each) = fields_same (entry_fields each)
answer_same (Waiting obstacle) = fields_same (obstacle_fields obstacle)
answer_same (Closed outcome) = (bytes_eq-Decides (outcome_name outcome) (outcome_name outcome)).1 refl
answer_same (Refused rule) = fields_same (refusal_fields rule)

-- answers are the same exactly where they are equal
pub same_decides : (answer other : Answer) → Decides (same_answer answer other) (answer ≡ other)
same_decides answer other = (answer_is answer other, λ is. ap (same_answer answer) (sym is) ∙ answer_same answer)

-- so does what a function answers that is the same
pub decides_by : (result : Bool) (answer other : Answer) → result ≡ same_answer answer other
    → Decides result (answer ≡ other)
decides_by result answer other is = rw is (same_decides answer other)
