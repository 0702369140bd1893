-- An answer that a value says is the one whose object the value is, and each answer that a program holds is said by its
-- object.
use Rattle.std.proofs.Common.{◌≡◌, [], ℕ, List, Bool, true, false, Option, Some, None, Result, Ok, Err, refl, sym, ap}
use Rattle.std.proofs.Common.{◌∙◌, codes, if◌then◌else◌}
use Rattle.std.proofs.lemmas.Slice.Eq.{bytes_eq-Decides}
use Rattle.std.specs.Prelude.{option_and_then, option_map}
use Rattle.std.specs.Str.{bytes_eq}
use Rattle.serde_json.specs.Data.{Data, null, boolean, number as number_data, string, array, object, Members}
use Rattle.serde_json.specs.Data.{no_members, member}
use Rattle.serde_json.specs.Find.{as_bool}
use Rattle.mtp_json.specs.ReadsAs.{ReadsAs}
use Rattle.mtp_json.specs.ReadResult.{here}
use Rattle.mtp_json.specs.declared.fault.FaultKind.TheVariants.{Unsound}
use Rattle.mtp_json.specs.declared.fault.JsonRefusal.{JsonRefusal}
use Rattle.mtp_json.specs.declared.fault.JsonRefusal.TheVariants.{Fault, Memory}
use Rattle.chart_core.specs.declared.entry.LogEntry.{LogEntry}
use Rattle.pol_events.specs.declared.answer.Answer.{Answer}
use Rattle.pol_events.specs.declared.answer.Answer.TheVariants.{Done, Ticket, Did, Waiting, Closed, Refused}
use Rattle.event_json.specs.Fields.{PlainField}
use Rattle.pol_record.specs.Objects.{fields_data}
use Rattle.pol_record.specs.Texts.{answer_data, entry_fields, obstacle_fields, refusal_fields, under_key}
use Rattle.pol_record.specs.Ranges.{is_in_range}
use Rattle.pol_entries.specs.Answers.{IsNoAnswer, ReadsAnswer, answer_form, or_unsound, alone, alone_in, answer_in}
use Rattle.pol_entries.specs.Answers.{checked, closed_fields, done_in, entry_in, has, obstacle_in, outcome_in, rule_in}
use Rattle.pol_entries.specs.Answers.{ticket_fields, ticket_in}
use Rattle.pol_entries.specs.Compared.{is_object, is_there, same_bit}
use Rattle.pol_entries.specs.Candidates.{entry_named, obstacle_named, outcome_named, rule_numbered}
use Rattle.pol_entries.specs.Found.{lookup_in, number_at, text_at}
use Rattle.pol_entries.proofs.Again.{entry_again, number_again, obstacle_again, outcome_again, rule_again}
use Rattle.pol_entries.proofs.Compared.{object_is, object_same}

-- ---- what is said is the object

-- what passes the check of a value has that value as the object of its fields
checked_is : {A : Type 0} (fields : A → List PlainField) (value : Data) (told : Option A) (found : A)
    → checked fields value told ≡ Some found → value ≡ fields_data (fields found)
checked_is fields value None found is = absurd cc
checked_is fields value (Some told) found is = go (is_object (fields told) value) refl is
  where
    go : (same : Bool) → is_object (fields told) value ≡ same → (if same then Some told else None) ≡ Some found
        → value ≡ fields_data (fields found)
    go true same is = let own : told ≡ found = cc in
        object_is (fields told) value same ∙ ap (λ told. fields_data (fields told)) own
    go false same is = absurd cc

-- members that have a value alone under a key are the object of that value under the key
alone_in_is : (key : List ℕ) (members : Members) (inner : Data) → alone_in key members ≡ Some inner
    → object members ≡ under_key key inner
unfolding under_key
alone_in_is key no_members inner is = absurd cc
alone_in_is key (member other value (member _ _ _)) inner is = absurd cc
alone_in_is key (member other value no_members) inner is = go (bytes_eq other key) refl is
  where
    go : (same : Bool) → bytes_eq other key ≡ same → (if same then Some value else None) ≡ Some inner
        → object (member other value no_members) ≡ object (member key inner no_members)
    go true same is = let own : value ≡ inner = cc in rw ((bytes_eq-Decides other key).0 same, own) refl
    go false same is = absurd cc

-- a value that has another alone under a key is the object of that one under the key
alone_is : (key : List ℕ) (value inner : Data) → alone key value ≡ Some inner → value ≡ under_key key inner
alone_is key (object members) inner is = alone_in_is key members inner is
alone_is key null inner is = absurd cc
alone_is key (boolean b) inner is = absurd cc
alone_is key (number_data n) inner is = absurd cc
alone_is key (string s) inner is = absurd cc
alone_is key (array s) inner is = absurd cc

-- what a mapped option holds comes of what the option holds
mapped : {A B : Type 0} (f : A → B) (told : Option A) (found : B) → option_map f told ≡ Some found
    → (own : A) × (told ≡ Some own) × (found ≡ f own)
mapped f None found is = absurd cc
mapped f (Some own) found is = (own, refl, cc)

-- a value that says that a thing is done is the object of that answer
done_is : (value : Data) (answer : Answer) → done_in value ≡ Some answer → value ≡ answer_data answer
done_is value answer is = go (alone (codes "done") value) refl is
  where
    by : (inner : Data) → value ≡ under_key (codes "done") inner
        → (if is_there (same_bit true) (as_bool inner) then Some Done else None) ≡ Some answer
        → value ≡ answer_data answer
    by (boolean true) alone is = let own : Done ≡ answer = cc in alone ∙ ap answer_data own
    by (boolean false) alone is = absurd cc
    by null alone is = absurd cc
    by (number_data n) alone is = absurd cc
    by (string s) alone is = absurd cc
    by (array s) alone is = absurd cc
    by (object s) alone is = absurd cc

    go : (found : Option Data) → alone (codes "done") value ≡ found
        → (if is_there (is_there (same_bit true)) (option_map as_bool found) then Some Done else None) ≡ Some answer
        → value ≡ answer_data answer
    go None found is = absurd cc
    go (Some inner) found is = by inner (alone_is (codes "done") value inner found) is

-- a value that says which log entry was done is the object of that answer
did_is : (value : Data) (entry : LogEntry) → option_and_then entry_in (alone (codes "did") value) ≡ Some entry
    → value ≡ answer_data (Did entry)
did_is value entry is = go (alone (codes "did") value) refl is
  where
    go : (found : Option Data) → alone (codes "did") value ≡ found → option_and_then entry_in found ≡ Some entry
        → value ≡ answer_data (Did entry)
    go None found is = absurd cc
    go (Some inner) found is =
        alone_is (codes "did") value inner found
        ∙ ap (under_key (codes "did"))
        (checked_is entry_fields inner (entry_named (text_at (codes "do") inner) (lookup_in inner)) entry is)

-- the answer that a value says has the value as its object
pub answer_is : (value : Data) (answer : Answer) → answer_in value ≡ Some answer → value ≡ answer_data answer
answer_is value answer is =
    by (has (codes "refused") value) (has (codes "wait") value) (has (codes "closed") value) (has (codes "did") value)
    (has (codes "ticket") value) is
  where
    by : (refused wait closed did ticket : Bool)
        → (if refused then option_map Refused (rule_in value)
        else (if wait then option_map Waiting (obstacle_in value)
        else (if closed then option_map Closed (outcome_in value)
        else (if did then option_map Did (option_and_then entry_in (alone (codes "did") value))
        else (if ticket then option_map Ticket (ticket_in value) else done_in value))))) ≡ Some answer
        → value ≡ answer_data answer
    by true wait closed did ticket is =
        let own = mapped Refused (rule_in value) answer is in
        checked_is refusal_fields value (rule_numbered (number_at (codes "refused") value) (lookup_in value)) own.0
        own.1 ∙ ap answer_data (sym own.2)
    by false true closed did ticket is =
        let own = mapped Waiting (obstacle_in value) answer is in
        checked_is obstacle_fields value (obstacle_named (text_at (codes "wait") value) (lookup_in value)) own.0 own.1
        ∙ ap answer_data (sym own.2)
    by false false true did ticket is =
        let own = mapped Closed (outcome_in value) answer is in
        checked_is closed_fields value (outcome_named (text_at (codes "closed") value)) own.0 own.1
        ∙ ap answer_data (sym own.2)
    by false false false true ticket is =
        let own = mapped Did (option_and_then entry_in (alone (codes "did") value)) answer is in
        did_is value own.0 own.1 ∙ ap answer_data (sym own.2)
    by false false false false true is =
        let own = mapped Ticket (ticket_in value) answer is in
        checked_is ticket_fields value (Some (number_at (codes "ticket") value)) own.0 own.1
        ∙ ap answer_data (sym own.2)
    by false false false false false is = done_is value answer is

-- ---- each object is said

-- what an object says passes the check of the object of its own fields
checked_again : {A : Type 0} (fields : A → List PlainField) (told : Option A) (found : A)
    → told ≡ Some found → checked fields (fields_data (fields found)) told ≡ Some found
checked_again fields told found is =
    ap (checked fields (fields_data (fields found))) is
    ∙ ap (λ same. if same then Some found else None) (object_same (fields found))

-- an answer that a program holds is said by its object
pub answer_again : (answer : Answer) → is_in_range answer ≡ true → answer_in (answer_data answer) ≡ Some answer
unfolding under_key
answer_again Done held = refl
answer_again (Ticket ticket) held =
    ap (option_map Ticket) (checked_again ticket_fields _ ticket (ap (λ n. Some n) (number_again ticket held)))
answer_again (Did entry) held = ap (option_map Did) (checked_again entry_fields _ entry (entry_again entry held))
answer_again (Waiting obstacle) held =
    let again = obstacle_again obstacle held in
    rw (again.0, again.1) (ap (option_map Waiting) (checked_again obstacle_fields _ obstacle again.2))
answer_again (Closed outcome) held =
    ap (option_map Closed) (checked_again closed_fields _ outcome (outcome_again outcome))
answer_again (Refused rule) held =
    let again = rule_again rule held in
    rw again.0 (ap (option_map Refused) (checked_again refusal_fields _ rule again.1))

-- ---- the reader's answer

-- a value that says no answer is the object of none that a program holds
not_said : (value : Data) → answer_in value ≡ None → IsNoAnswer value
not_said value none answer held is =
    let said : answer_in value ≡ Some answer = ap answer_in is ∙ answer_again answer held in
    let clash : None ≡ Some answer = sym none ∙ said in cc

-- what is read by the form is the answer whose object the value is
pub reads_answer : (value : Data) (result : Result Answer JsonRefusal)
    → ReadsAs (λ answer. answer) result (answer_form value) → ReadsAnswer value result
unfolding answer_form
reads_answer value (Ok answer) gives = go (answer_in value) refl gives
  where
    go : (said : Option Answer) → answer_in value ≡ said → here (or_unsound said) ≡ Ok answer
        → value ≡ answer_data answer
    go None said is = absurd cc
    go (Some own) said is = let same : own ≡ answer = cc in answer_is value own said ∙ ap answer_data same
reads_answer value (Err Memory) gives = tt
reads_answer value (Err (Fault fault)) gives = go (answer_in value) refl gives
  where
    go : (said : Option Answer) → answer_in value ≡ said → here (or_unsound said) ≡ Err fault
        → (fault ≡ record { kind = Unsound; path = [] }) × IsNoAnswer value
    go None said is = (cc, not_said value said)
    go (Some own) said is = absurd cc
