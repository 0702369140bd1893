-- A flat line is at fault where what is kept of it is.
use Rattle.std.proofs.Common.{◌≡◌, ℕ, List, [], Bool, true, false, Option, Some, None, Ok, Err, refl, ap}
use Rattle.std.proofs.Common.{sym, subst, ◌∙◌, arith, codes}
use Rattle.std.specs.Prelude.{if◌then◌else◌, option_map, ⊤}
use Rattle.std.specs.Str.{IsUtf8, is_utf8}
use Rattle.serde_json.specs.Data.{Data, Members, array, boolean, float, negative, null, number, object, string}
use Rattle.serde_json.specs.Data.{unsigned}
use Rattle.serde_json.specs.Find.{get}
use Rattle.serde_json.specs.Read.{read}
use Rattle.mtp_codes.specs.Codes.{command_codes, state_codes}
use Rattle.mtp_codes.specs.Numbers.{greatest_u32, greatest_u64}
use Rattle.mtp_json.specs.declared.fault.FaultKind.TheVariants.{NotJson, WrongKind}
use Rattle.mtp_json.specs.declared.fault.JsonFault.{JsonFault}
use Rattle.mtp_json.specs.Form.{field, nothing_but, object_here, present, required}
use Rattle.mtp_json.specs.Leaf.{code, count, name, scalar, word}
use Rattle.mtp_json.specs.Parse.{json_of, or_not_json}
use Rattle.mtp_json.specs.ReadResult.{Finding, ReadResult, ◌>>=◌, here, under}
use Rattle.mtp_json.proofs.Utf8.{utf8_is}
use Rattle.pol_events.specs.Events.{PlainEvent, abandon, advance, desk, exchange_begin, exchange_cancel, report}
use Rattle.pol_events.specs.Events.{stop_batch, thaw, unplug, variable}
use Rattle.event_json.specs.declared.fault.LineFault.TheVariants.{Json}
use Rattle.event_json.specs.declared.kind.EventKind.{EventKind}
use Rattle.event_json.specs.declared.kind.EventKind.TheVariants.{Plug, Unplug, Report, Variable, Recipe, Start, Advance}
use Rattle.event_json.specs.declared.kind.EventKind.TheVariants.{Freeze, Thaw, Stop, Abandon, Desk, ExchangeBegin}
use Rattle.event_json.specs.declared.kind.EventKind.TheVariants.{ExchangeEnd, ExchangeCancel}
use Rattle.event_json.specs.Forms.{batch_in, control_in, desk_in, event_by, event_in, exchange_cancel_in, report_in}
use Rattle.event_json.specs.Forms.{tag_in, variable_in}
use Rattle.event_json.specs.Guarded.{PlainGuarded, guarded_by, guarded_desk_in, guarded_in, guarded_of}
use Rattle.event_json.specs.Lines.{event_of}
use Rattle.event_json.specs.Version1.{event_by_version_1, event_in_version_1, event_of_version_1}
use Rattle.event_json.specs.Words.{kind_words, mode_words, origin_words}
use Rattle.pol_lines.specs.declared.parts.Held.{Held}
use Rattle.pol_lines.specs.declared.parts.Held.TheVariants.{Text, Whole, Bit, Other}
use Rattle.pol_lines.specs.declared.parts.Part.{Part}
use Rattle.pol_lines.specs.Faults.{IsFault}
use Rattle.pol_lines.specs.Parts.{BeginsHeld, IsOfParts, held_data, parts_data, simple, simple_members}
use Rattle.pol_lines.specs.Spots.{at_key, batch_judged, cancel_judged, desk_judged, fault_of, judged, judged_by}
use Rattle.pol_lines.specs.Spots.{kind_judged, line_judged, named_desk_judged, report_judged, tag_judged}
use Rattle.pol_lines.specs.Spots.{variable_judged}
use Rattle.pol_lines.proofs.Keeping.{simple_get, simple_listed}
use Rattle.pol_lines.proofs.Printed.{begins_all}

-- ---- fields

-- a form that finds the same in what is kept of a value
abbrev Keeps : {A : Type 0} → (Data → Finding A) → Type 0
Keeps form = (value : Data) → form (simple value) ≡ form value

-- a name
keeps_name : Keeps name
keeps_name null = refl
keeps_name (boolean bit) = refl
keeps_name (number (unsigned n)) = refl
keeps_name (number (negative z)) = refl
keeps_name (number (float x)) = refl
keeps_name (string bytes) = refl
keeps_name (array values) = refl
keeps_name (object found) = refl

-- a count
keeps_count : (low high : ℕ) → Keeps (count low high)
keeps_count low high null = refl
keeps_count low high (boolean bit) = refl
keeps_count low high (number (unsigned n)) = refl
keeps_count low high (number (negative z)) = refl
keeps_count low high (number (float x)) = refl
keeps_count low high (string bytes) = refl
keeps_count low high (array values) = refl
keeps_count low high (object found) = refl

-- a code
keeps_code : {A : Type 0} (table : List (A × ℕ)) → Keeps (code table)
keeps_code table null = refl
keeps_code table (boolean bit) = refl
keeps_code table (number (unsigned n)) = refl
keeps_code table (number (negative z)) = refl
keeps_code table (number (float x)) = refl
keeps_code table (string bytes) = refl
keeps_code table (array values) = refl
keeps_code table (object found) = refl

-- a word
keeps_word : {A : Type 0} (table : List (List ℕ × A)) → Keeps (word table)
keeps_word table null = refl
keeps_word table (boolean bit) = refl
keeps_word table (number (unsigned n)) = refl
keeps_word table (number (negative z)) = refl
keeps_word table (number (float x)) = refl
keeps_word table (string bytes) = refl
keeps_word table (array values) = refl
keeps_word table (object found) = refl

-- a value of a variable
keeps_scalar : Keeps scalar
keeps_scalar null = refl
keeps_scalar (boolean bit) = refl
keeps_scalar (number (unsigned n)) = refl
keeps_scalar (number (negative z)) = refl
keeps_scalar (number (float x)) = refl
keeps_scalar (string bytes) = refl
keeps_scalar (array values) = refl
keeps_scalar (object found) = refl

-- what is found of a value that is there or not
present_kept : {A : Type 0} (form : Data → Finding A) → Keeps form → (value : Option Data)
    → present form (option_map simple value) ≡ present form value
present_kept form keeps None = refl
present_kept form keeps (Some value) = keeps value

-- what is found at a key
field_kept : {A : Type 0} (form : Data → Finding A) → Keeps form → (key : List ℕ) (found : Members)
    → field key form (object (simple_members found)) ≡ field key form (object found)
field_kept form keeps key found = ap (present form) (simple_get key found)
    ∙ present_kept form keeps (get key (object found))

-- ---- kinds of lines

-- the value of a variable
variable_kept : (found : Members) → variable_in (object (simple_members found)) ≡ variable_in (object found)
unfolding variable_in
variable_kept found =
    let e1 = field_kept (count 0 greatest_u64) (keeps_count 0 greatest_u64) (codes "at") found in
    let e2 = field_kept name keeps_name (codes "tag") found in
    let e3 = field_kept name keeps_name (codes "name") found in
    let e4 = field_kept scalar keeps_scalar (codes "value") found in
    let e5 = simple_listed (codes "ev at tag name value") found in
    rw (e1, e2, e3, e4, e5) refl

-- what a service reports
control_kept : (found : Members) → control_in (object (simple_members found)) ≡ control_in (object found)
unfolding control_in
control_kept found =
    let e1 = field_kept (code state_codes) (keeps_code state_codes) (codes "StateCur") found in
    let e2 = field_kept (count 0 greatest_u32) (keeps_count 0 greatest_u32) (codes "CommandEn") found in
    let e3 = field_kept (word mode_words) (keeps_word mode_words) (codes "Mode") found in
    let e4 = field_kept (word origin_words) (keeps_word origin_words) (codes "Src") found in
    let e5 = field_kept (count 0 65535) (keeps_count 0 65535) (codes "ProcedureCur") found in
    rw (e1, e2, e3, e4, e5) refl

-- a report
report_kept : (found : Members) → report_in (object (simple_members found)) ≡ report_in (object found)
unfolding report_in
report_kept found =
    let e1 = field_kept (count 0 greatest_u64) (keeps_count 0 greatest_u64) (codes "at") found in
    let e2 = field_kept name keeps_name (codes "tag") found in
    let e3 = field_kept name keeps_name (codes "service") found in
    let e4 = control_kept found in
    let e5 = simple_listed (codes "ev at tag service StateCur CommandEn Mode Src ProcedureCur") found in
    rw (e1, e2, e3, e4, e5) refl

-- an operator's command
desk_kept : (found : Members) → desk_in (object (simple_members found)) ≡ desk_in (object found)
unfolding desk_in
desk_kept found =
    let e1 = field_kept (count 0 greatest_u64) (keeps_count 0 greatest_u64) (codes "at") found in
    let e2 = field_kept name keeps_name (codes "tag") found in
    let e3 = field_kept name keeps_name (codes "service") found in
    let e4 = field_kept (code command_codes) (keeps_code command_codes) (codes "CommandOp") found in
    let e5 = simple_listed (codes "ev at tag service CommandOp") found in
    rw (e1, e2, e3, e4, e5) refl

-- an operator's command under a policy
named_desk_kept : (found : Members) → guarded_desk_in (object (simple_members found)) ≡ guarded_desk_in (object found)
unfolding guarded_desk_in
named_desk_kept found =
    let e1 = field_kept (count 0 greatest_u64) (keeps_count 0 greatest_u64) (codes "at") found in
    let e2 = field_kept name keeps_name (codes "by") found in
    let e3 = field_kept name keeps_name (codes "tag") found in
    let e4 = field_kept name keeps_name (codes "service") found in
    let e5 = field_kept (code command_codes) (keeps_code command_codes) (codes "CommandOp") found in
    let e6 = simple_listed (codes "ev at by tag service CommandOp") found in
    rw (e1, e2, e3, e4, e5, e6) refl

-- the cancelling of an exchange
cancel_kept : (found : Members)
    → exchange_cancel_in (object (simple_members found)) ≡ exchange_cancel_in (object found)
unfolding exchange_cancel_in
cancel_kept found =
    let e1 = field_kept (count 0 greatest_u64) (keeps_count 0 greatest_u64) (codes "at") found in
    let e2 = field_kept name keeps_name (codes "tag") found in
    let e3 = field_kept (count 0 greatest_u32) (keeps_count 0 greatest_u32) (codes "ticket") found in
    let e4 = simple_listed (codes "ev at tag ticket") found in
    rw (e1, e2, e3, e4) refl

-- an event that names a tag and nothing more
tag_kept : (event : ℕ → List ℕ → PlainEvent) (found : Members)
    → tag_in event (object (simple_members found)) ≡ tag_in event (object found)
unfolding tag_in
tag_kept event found =
    let e1 = field_kept (count 0 greatest_u64) (keeps_count 0 greatest_u64) (codes "at") found in
    let e2 = field_kept name keeps_name (codes "tag") found in
    let e3 = simple_listed (codes "ev at tag") found in
    rw (e1, e2, e3) refl

-- an event that names a batch and nothing more
batch_kept : (event : ℕ → List ℕ → PlainEvent) (found : Members)
    → batch_in event (object (simple_members found)) ≡ batch_in event (object found)
unfolding batch_in
batch_kept event found =
    let e1 = field_kept (count 0 greatest_u64) (keeps_count 0 greatest_u64) (codes "at") found in
    let e2 = field_kept name keeps_name (codes "batch") found in
    let e3 = simple_listed (codes "ev at batch") found in
    rw (e1, e2, e3) refl

-- ---- faults

-- what is wrong with what was found at a key
pub judged_found : {A : Type 0} (key : List ℕ) (found : Finding A)
    → judged (under key (here found)) ≡ at_key key (fault_of found)
judged_found key (Ok value) = refl
judged_found key (Err kind) = refl

-- the first fault of two fields and the keys is that of each event of these fields
fault_of_two : (at : ReadResult ℕ) (named : ReadResult (List ℕ)) (only : ReadResult ⊤)
    (event : ℕ → List ℕ → PlainEvent) (fault : JsonFault)
    → (at >>= λ _. named >>= λ _. only) ≡ Err fault
    → (at >>= λ a. named >>= λ n. only >>= λ _. Ok (event a n)) ≡ Err fault
fault_of_two (Err first) named only event fault is = let same : first ≡ fault = cc in ap Err same
fault_of_two (Ok a) (Err first) only event fault is = let same : first ≡ fault = cc in ap Err same
fault_of_two (Ok a) (Ok n) (Err first) event fault is = let same : first ≡ fault = cc in ap Err same
fault_of_two (Ok a) (Ok n) (Ok all) event fault is = absurd cc

-- the same of three fields
fault_of_three : {A : Type 0} (at : ReadResult ℕ) (named : ReadResult (List ℕ)) (third : ReadResult A)
    (only : ReadResult ⊤) (event : ℕ → List ℕ → A → PlainEvent) (fault : JsonFault)
    → (at >>= λ _. named >>= λ _. third >>= λ _. only) ≡ Err fault
    → (at >>= λ a. named >>= λ n. third >>= λ t. only >>= λ _. Ok (event a n t)) ≡ Err fault
fault_of_three (Err first) named third only event fault is = let same : first ≡ fault = cc in ap Err same
fault_of_three (Ok a) (Err first) third only event fault is = let same : first ≡ fault = cc in ap Err same
fault_of_three (Ok a) (Ok n) (Err first) only event fault is = let same : first ≡ fault = cc in ap Err same
fault_of_three (Ok a) (Ok n) (Ok t) (Err first) event fault is = let same : first ≡ fault = cc in ap Err same
fault_of_three (Ok a) (Ok n) (Ok t) (Ok all) event fault is = absurd cc

-- the same of four fields
fault_of_four : {A : Type 0} (at : ReadResult ℕ) (named second : ReadResult (List ℕ)) (last : ReadResult A)
    (only : ReadResult ⊤) (event : ℕ → List ℕ → List ℕ → A → PlainEvent) (fault : JsonFault)
    → (at >>= λ _. named >>= λ _. second >>= λ _. last >>= λ _. only) ≡ Err fault
    → (at >>= λ a. named >>= λ n. second >>= λ s. last >>= λ l. only >>= λ _. Ok (event a n s l)) ≡ Err fault
fault_of_four (Err first) named second last only event fault is = let same : first ≡ fault = cc in ap Err same
fault_of_four (Ok a) (Err first) second last only event fault is = let same : first ≡ fault = cc in ap Err same
fault_of_four (Ok a) (Ok n) (Err first) last only event fault is = let same : first ≡ fault = cc in ap Err same
fault_of_four (Ok a) (Ok n) (Ok s) (Err first) only event fault is = let same : first ≡ fault = cc in ap Err same
fault_of_four (Ok a) (Ok n) (Ok s) (Ok l) (Err first) event fault is = let same : first ≡ fault = cc in ap Err same
fault_of_four (Ok a) (Ok n) (Ok s) (Ok l) (Ok all) event fault is = absurd cc

-- the same of five fields
fault_of_five : {A B : Type 0} (at : ReadResult ℕ) (first second third : ReadResult (List ℕ)) (last : ReadResult A)
    (only : ReadResult ⊤) (made : ℕ → List ℕ → List ℕ → List ℕ → A → B) (fault : JsonFault)
    → (at >>= λ _. first >>= λ _. second >>= λ _. third >>= λ _. last >>= λ _. only) ≡ Err fault
    → (at >>= λ a. first >>= λ f. second >>= λ s. third >>= λ t. last >>= λ l. only >>= λ _. Ok (made a f s t l))
    ≡ Err fault
fault_of_five (Err other) first second third last only made fault is = let same : other ≡ fault = cc in ap Err same
fault_of_five (Ok a) (Err other) second third last only made fault is = let same : other ≡ fault = cc in ap Err same
fault_of_five (Ok a) (Ok f) (Err other) third last only made fault is = let same : other ≡ fault = cc in ap Err same
fault_of_five (Ok a) (Ok f) (Ok s) (Err other) last only made fault is = let same : other ≡ fault = cc in ap Err same
fault_of_five (Ok a) (Ok f) (Ok s) (Ok t) (Err other) only made fault is = let same : other ≡ fault = cc in ap Err same
fault_of_five (Ok a) (Ok f) (Ok s) (Ok t) (Ok l) (Err other) made fault is =
    let same : other ≡ fault = cc in ap Err same
fault_of_five (Ok a) (Ok f) (Ok s) (Ok t) (Ok l) (Ok all) made fault is = absurd cc

-- the same of three fields and one of which only the fault is known
fault_of_value : {A : Type 0} (at : ReadResult ℕ) (named second : ReadResult (List ℕ)) (last : ReadResult A)
    (only : ReadResult ⊤) (event : ℕ → List ℕ → List ℕ → A → PlainEvent) (fault : JsonFault)
    → (at >>= λ _. named >>= λ _. second >>= λ _. judged last >>= λ _. only) ≡ Err fault
    → (at >>= λ a. named >>= λ n. second >>= λ s. last >>= λ l. only >>= λ _. Ok (event a n s l)) ≡ Err fault
fault_of_value (Err first) named second last only event fault is = let same : first ≡ fault = cc in ap Err same
fault_of_value (Ok a) (Err first) second last only event fault is = let same : first ≡ fault = cc in ap Err same
fault_of_value (Ok a) (Ok n) (Err first) last only event fault is = let same : first ≡ fault = cc in ap Err same
fault_of_value (Ok a) (Ok n) (Ok s) (Err first) only event fault is = let same : first ≡ fault = cc in ap Err same
fault_of_value (Ok a) (Ok n) (Ok s) (Ok l) (Err first) event fault is = let same : first ≡ fault = cc in ap Err same
fault_of_value (Ok a) (Ok n) (Ok s) (Ok l) (Ok all) event fault is = absurd cc

-- ---- kinds at fault

-- a variable's value
variable_fault : (found : Members) (fault : JsonFault)
    → variable_judged (object (simple_members found)) ≡ Err fault → variable_in (object found) ≡ Err fault
unfolding variable_in
variable_fault found fault is =
    let value = object (simple_members found) in
    sym (variable_kept found)
    ∙ fault_of_value (required (codes "at") (count 0 greatest_u64) value) (required (codes "tag") name value)
    (required (codes "name") name value) (required (codes "value") scalar value)
    (nothing_but (codes "ev at tag name value") value) variable fault is

-- a report
report_fault : (found : Members) (fault : JsonFault)
    → report_judged (object (simple_members found)) ≡ Err fault → report_in (object found) ≡ Err fault
unfolding report_in
report_fault found fault is =
    let value = object (simple_members found) in
    sym (report_kept found)
    ∙ fault_of_four (required (codes "at") (count 0 greatest_u64) value) (required (codes "tag") name value)
    (required (codes "service") name value) (control_in value)
    (nothing_but (codes "ev at tag service StateCur CommandEn Mode Src ProcedureCur") value) report fault is

-- an operator's command
desk_fault : (found : Members) (fault : JsonFault)
    → desk_judged (object (simple_members found)) ≡ Err fault → desk_in (object found) ≡ Err fault
unfolding desk_in
desk_fault found fault is =
    let value = object (simple_members found) in
    sym (desk_kept found)
    ∙ fault_of_four (required (codes "at") (count 0 greatest_u64) value) (required (codes "tag") name value)
    (required (codes "service") name value) (required (codes "CommandOp") (code command_codes) value)
    (nothing_but (codes "ev at tag service CommandOp") value) desk fault is

-- an operator's command under a policy
named_desk_fault : (found : Members) (fault : JsonFault)
    → named_desk_judged (object (simple_members found)) ≡ Err fault → guarded_desk_in (object found) ≡ Err fault
unfolding guarded_desk_in
named_desk_fault found fault is =
    let value = object (simple_members found) in
    sym (named_desk_kept found)
    ∙ fault_of_five (required (codes "at") (count 0 greatest_u64) value) (required (codes "by") name value)
    (required (codes "tag") name value) (required (codes "service") name value)
    (required (codes "CommandOp") (code command_codes) value)
    (nothing_but (codes "ev at by tag service CommandOp") value)
    (λ at person tag service command. record { event = desk at tag service command; person = Some person }) fault is

-- the cancelling of an exchange
cancel_fault : (found : Members) (fault : JsonFault)
    → cancel_judged (object (simple_members found)) ≡ Err fault → exchange_cancel_in (object found) ≡ Err fault
unfolding exchange_cancel_in
cancel_fault found fault is =
    let value = object (simple_members found) in
    sym (cancel_kept found)
    ∙ fault_of_three (required (codes "at") (count 0 greatest_u64) value) (required (codes "tag") name value)
    (required (codes "ticket") (count 0 greatest_u32) value) (nothing_but (codes "ev at tag ticket") value)
    exchange_cancel fault is

-- an event that names a tag
tag_fault : (event : ℕ → List ℕ → PlainEvent) (found : Members) (fault : JsonFault)
    → tag_judged (object (simple_members found)) ≡ Err fault → tag_in event (object found) ≡ Err fault
unfolding tag_in
tag_fault event found fault is =
    let value = object (simple_members found) in
    sym (tag_kept event found)
    ∙ fault_of_two (required (codes "at") (count 0 greatest_u64) value) (required (codes "tag") name value)
    (nothing_but (codes "ev at tag") value) event fault is

-- an event that names a batch
batch_fault : (event : ℕ → List ℕ → PlainEvent) (found : Members) (fault : JsonFault)
    → batch_judged (object (simple_members found)) ≡ Err fault → batch_in event (object found) ≡ Err fault
unfolding batch_in
batch_fault event found fault is =
    let value = object (simple_members found) in
    sym (batch_kept event found)
    ∙ fault_of_two (required (codes "at") (count 0 greatest_u64) value) (required (codes "batch") name value)
    (nothing_but (codes "ev at batch") value) event fault is

-- the fault of a line of a kind
kind_fault : (kind : EventKind) (found : Members) (fault : JsonFault)
    → judged_by (object (simple_members found)) kind ≡ Err fault → event_by (object found) kind ≡ Err fault
kind_fault Plug found fault is = absurd cc
kind_fault Unplug found fault is = tag_fault unplug found fault is
kind_fault Report found fault is = report_fault found fault is
kind_fault Variable found fault is = variable_fault found fault is
kind_fault Recipe found fault is = absurd cc
kind_fault Start found fault is = absurd cc
kind_fault Advance found fault is = batch_fault advance found fault is
kind_fault Freeze found fault is = absurd cc
kind_fault Thaw found fault is = batch_fault thaw found fault is
kind_fault Stop found fault is = batch_fault stop_batch found fault is
kind_fault Abandon found fault is = batch_fault abandon found fault is
kind_fault Desk found fault is = desk_fault found fault is
kind_fault ExchangeBegin found fault is = tag_fault exchange_begin found fault is
kind_fault ExchangeEnd found fault is = absurd cc
kind_fault ExchangeCancel found fault is = cancel_fault found fault is

-- the same by version 1
first_kind_fault : (kind : EventKind) (found : Members) (fault : JsonFault)
    → judged_by (object (simple_members found)) kind ≡ Err fault → event_by_version_1 (object found) kind ≡ Err fault
first_kind_fault Freeze found fault is = absurd cc
first_kind_fault kind found fault is = kind_fault kind found fault is

-- and under a policy
guarded_kind_fault : (kind : EventKind) (found : Members) (fault : JsonFault)
    → kind_judged true (object (simple_members found)) kind ≡ Err fault → guarded_by (object found) kind ≡ Err fault
guarded_kind_fault Desk found fault is = named_desk_fault found fault is
guarded_kind_fault kind found fault is = rw (kind_fault kind found fault is) refl

-- the fault of a line by its kind, if it has one
fault_by_kind : {A : Type 0} (kind : ReadResult EventKind) (judge : EventKind → ReadResult ⊤)
    (form : EventKind → ReadResult A) (fault : JsonFault)
    → ((kind : EventKind) → judge kind ≡ Err fault → form kind ≡ Err fault)
    → (kind >>= judge) ≡ Err fault → (kind >>= form) ≡ Err fault
fault_by_kind (Ok kind) judge form fault each is = each kind is
fault_by_kind (Err first) judge form fault each is = let same : first ≡ fault = cc in ap Err same

-- the fault of the members of a flat line, by the kinds of its form
members_fault : {A : Type 0} (guarded : Bool) (found : Members) (form : EventKind → ReadResult A) (fault : JsonFault)
    → ((kind : EventKind) → kind_judged guarded (object (simple_members found)) kind ≡ Err fault
    → form kind ≡ Err fault) → line_judged guarded (object (simple_members found)) ≡ Err fault
    → (required (codes "ev") (word kind_words) (object found) >>= form) ≡ Err fault
members_fault guarded found form fault each is =
    let kind = field_kept (word kind_words) (keeps_word kind_words) (codes "ev") found in
    fault_by_kind (required (codes "ev") (word kind_words) (object found))
    (kind_judged guarded (object (simple_members found))) form fault each (rw kind at is)

-- the fault of a flat line
object_fault : (found : Members) (fault : JsonFault) → line_judged false (object (simple_members found)) ≡ Err fault
    → event_in (object found) ≡ Err fault
unfolding event_in
object_fault found fault is =
    members_fault false found (event_by (object found)) fault (λ kind. kind_fault kind found fault) is

-- the same by version 1
first_object_fault : (found : Members) (fault : JsonFault)
    → line_judged false (object (simple_members found)) ≡ Err fault → event_in_version_1 (object found) ≡ Err fault
unfolding event_in_version_1
first_object_fault found fault is =
    members_fault false found (event_by_version_1 (object found)) fault (λ kind. first_kind_fault kind found fault) is

-- and under a policy
guarded_object_fault : (found : Members) (fault : JsonFault)
    → line_judged true (object (simple_members found)) ≡ Err fault → guarded_in (object found) ≡ Err fault
unfolding guarded_in
guarded_object_fault found fault is =
    members_fault true found (guarded_by (object found)) fault (λ kind. guarded_kind_fault kind found fault) is

-- what reads as an object at fault is a line at fault
faulty_line : (line : List ℕ) (value : Data) (fault : JsonFault) → IsUtf8 line → read line ≡ Some value
    → event_in value ≡ Err fault → event_of line ≡ Err (Json fault)
unfolding event_of json_of
faulty_line line value fault utf8 is at_fault = rw (utf8_is line utf8, is, at_fault) refl

-- the same by version 1
first_faulty_line : (line : List ℕ) (value : Data) (fault : JsonFault) → IsUtf8 line → read line ≡ Some value
    → event_in_version_1 value ≡ Err fault → event_of_version_1 line ≡ Err (Json fault)
unfolding event_of_version_1 json_of
first_faulty_line line value fault utf8 is at_fault = rw (utf8_is line utf8, is, at_fault) refl

-- and under a policy
guarded_faulty_line : (line : List ℕ) (value : Data) (fault : JsonFault) → IsUtf8 line → read line ≡ Some value
    → guarded_in value ≡ Err fault → guarded_of line ≡ Err (Json fault)
unfolding guarded_of json_of
guarded_faulty_line line value fault utf8 is at_fault = rw (utf8_is line utf8, is, at_fault) refl

-- a line that is read as an object, of which is kept what is at fault
object_line : (guarded : Bool) (line : List ℕ) (found : Members) (fault : JsonFault) → IsUtf8 line
    → read line ≡ Some (object found) → line_judged guarded (object (simple_members found)) ≡ Err fault
    → IsFault guarded line (Json fault)
object_line false line found fault utf8 reads is = (
  faulty_line line (object found) fault utf8 reads (object_fault found fault is),
  first_faulty_line line (object found) fault utf8 reads (first_object_fault found fault is),
)
object_line true line found fault utf8 reads is =
    guarded_faulty_line line (object found) fault utf8 reads (guarded_object_fault found fault is)

-- a line of which parts are kept that are at fault
pub line_at_fault : (guarded : Bool) (line : List ℕ) (parts : List Part) (fault : JsonFault) → IsUtf8 line
    → IsOfParts line parts [] → line_judged guarded (parts_data parts) ≡ Err fault
    → IsFault guarded line (Json fault)
line_at_fault guarded line parts fault utf8 of_parts is =
    object_line guarded line of_parts.found fault utf8
    (begins_all 2 line (object of_parts.found) (omega arith) of_parts.begins)
    (subst (λ members. line_judged guarded (object members) ≡ Err fault) (sym of_parts.keeps) is)

-- the fault of a value that is no object
abbrev no_object_fault : JsonFault
no_object_fault = record { kind = WrongKind; path = [] }

-- what is kept is no object
kept_apart : (held : Held) (found : Members) → object found ≡ held_data held → ⊥
kept_apart (Text bytes) found is = absurd cc
kept_apart (Whole z) found is = absurd cc
kept_apart (Bit bit) found is = absurd cc
kept_apart Other found is = absurd cc

-- a value of which this is kept is no object
kept_no_object : (value : Data) (held : Held) → simple value ≡ held_data held
    → object_here value ≡ Err no_object_fault
kept_no_object null held is = refl
kept_no_object (boolean bit) held is = refl
kept_no_object (number digits) held is = refl
kept_no_object (string bytes) held is = refl
kept_no_object (array values) held is = refl
kept_no_object (object found) held is = absurd (kept_apart held found is)

-- a line that is read as such a value
no_object_line : (guarded : Bool) (line : List ℕ) (value : Data) → IsUtf8 line → read line ≡ Some value
    → object_here value ≡ Err no_object_fault → IsFault guarded line (Json no_object_fault)
unfolding event_in event_in_version_1 guarded_in
no_object_line false line value utf8 reads none = (
  faulty_line line value no_object_fault utf8 reads (rw none refl),
  first_faulty_line line value no_object_fault utf8 reads (rw none refl),
)
no_object_line true line value utf8 reads none =
    guarded_faulty_line line value no_object_fault utf8 reads (rw none refl)

-- a line of such a value
pub no_object : (guarded : Bool) (line : List ℕ) (held : Held) → IsUtf8 line → BeginsHeld line (held_data held) []
    → IsFault guarded line (Json (record { kind = WrongKind; path = [] }))
no_object guarded line held utf8 begins =
    no_object_line guarded line begins.value utf8 (begins_all 1 line begins.value (omega arith) begins.begins)
    (kept_no_object begins.value held begins.keeps)

-- a line that isn't read as a value is no JSON, whether it is UTF-8 or not
nothing_read : (line : List ℕ) → read line ≡ None → json_of line ≡ Err NotJson
unfolding json_of
nothing_read line none = go (is_utf8 line)
  where
    go : (utf8 : Bool) → (if utf8 then or_not_json (read line) else Err NotJson) ≡ Err NotJson
    go true = ap or_not_json none
    go false = refl

-- and so is at fault
pub not_json : (guarded : Bool) (line : List ℕ) → read line ≡ None
    → IsFault guarded line (Json (record { kind = NotJson; path = [] }))
unfolding event_of event_of_version_1 guarded_of
not_json false line none = (rw (nothing_read line none) refl, rw (nothing_read line none) refl)
not_json true line none = rw (nothing_read line none) refl

-- ---- faults as they are told

-- what is told of a fault is the fault
pub fault_told : (guarded : Bool) (line : List ℕ) (told fault : JsonFault) → told ≡ fault
    → IsFault guarded line (Json fault) → IsFault guarded line (Json told)
fault_told guarded line told fault same is = subst (λ fault. IsFault guarded line (Json fault)) (sym same) is
