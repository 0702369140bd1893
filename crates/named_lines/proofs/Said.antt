-- What is said is orderly, and a command of the desk names its person.
use Rattle.std.proofs.Common.{◌≡◌, ℕ, Bool, List, true, false, Option, Some, None, Err, Ok, rules, refl, sym, ◌∙◌}
use Rattle.std.specs.Prelude.{codes, IfOk, IsTrue, Result, is_some, if◌then◌else◌, ⊤}
use Rattle.serde_json.specs.Data.{Data}
use Rattle.mtp_codes.specs.Numbers.{greatest_u64}
use Rattle.mtp_json.specs.Form.{object_here, optional, required}
use Rattle.mtp_json.specs.Leaf.{count, name, word}
use Rattle.mtp_json.specs.ReadResult.{ReadResult, ◌>>=◌}
use Rattle.chart_core.specs.declared.fault.ChartFault.{ChartFault}
use Rattle.chart_json.proofs.Told.{any_before, told_before}
use Rattle.pol_events.specs.Events.{PlainEvent, plain_event}
use Rattle.pol_events.specs.Orderly.{is_orderly}
use Rattle.event_json.specs.declared.fault.LineRefusal.{LineRefusal}
use Rattle.event_json.specs.declared.kind.EventKind.{EventKind}
use Rattle.event_json.specs.Forms.{event_by, event_in}
use Rattle.event_json.specs.Guarded.{is_desk, is_desk_kind}
use Rattle.event_json.specs.Lines.{fault_within, unless_faulty}
use Rattle.event_json.specs.Words.{kind_words}
use Rattle.event_json.proofs.Orderly.{IsOrderly, kind_orderly}
use Rattle.named_lines.specs.declared.named.Named.{Named}
use Rattle.named_lines.specs.Named.{PlainNamed, TellsNamed, given_by, named_in, named_of, named_read_of, of_named}
use Rattle.named_lines.specs.Named.{person_in, person_of, plain_named, some_person}
use Rattle.named_lines.specs.Without.{without}
use Rattle.named_lines.proofs.Without.{other_field, still_object}
use Rattle.named_lines.proofs.Stamps.{kind_told}

-- the event is orderly, unless its chart has a fault, and it names a person where it is of the desk
pub record IsNamed (named : PlainNamed) : Type 0 where
  pub orderly : IsOrderly named.event
  pub person : is_desk named.event ≡ true → is_some named.person ≡ true

-- a command of the desk names a person
person_told : (value : Data) (kind : EventKind)
    → IfOk (person_of value kind) (λ person. is_desk_kind kind ≡ true → is_some person ≡ true)
person_told value kind = go (is_desk_kind kind)
  where
    any : (read : ReadResult (Option (List ℕ))) → IfOk read (λ person. false ≡ true → is_some person ≡ true)
    any (Ok person) = λ is. absurd cc
    any (Err fault) = tt

    go : (is : Bool)
        → IfOk (if is then some_person (required (codes "by") name value) else optional (codes "by") name value)
        (λ person. is ≡ true → is_some person ≡ true)
    go true = any_before (λ person. true ≡ true → is_some person ≡ true) (required (codes "by") name value)
        (λ person. Ok (Some person)) (λ person is. refl)
    go false = any (optional (codes "by") name value)

-- an event of this kind, with a person who is there where the kind is of the desk
given_named : (kind : EventKind) (read : ReadResult PlainEvent) → IfOk read IsOrderly
    → IfOk read (λ event. is_desk event ≡ is_desk_kind kind) → (person : Option (List ℕ))
    → (is_desk_kind kind ≡ true → is_some person ≡ true) → IfOk (given_by person read) IsNamed
given_named kind (Ok event) orderly told person some =
    record { orderly = orderly; person = λ is. some (sym told ∙ is) }
given_named kind (Err fault) orderly told person some = tt

-- what a value of this kind says
kind_named : (value rest : Data) (kind : EventKind)
    → IfOk (person_of value kind >>= λ person. given_by person (event_by rest kind)) IsNamed
kind_named value rest kind =
    told_before (λ person. is_desk_kind kind ≡ true → is_some person ≡ true) IsNamed (person_of value kind)
    (λ person. given_by person (event_by rest kind)) (person_told value kind)
    (given_named kind (event_by rest kind) (kind_orderly rest kind) (kind_told rest kind))

-- what a value says, by its object, its kind and its stamp
parts_named : (value rest : Data) (opened : ReadResult ⊤) (read : ReadResult EventKind) (stamp : ReadResult ℕ)
    → IfOk ((opened >>= λ _. read >>= λ kind. stamp >>= λ _. person_of value kind) >>= λ person.
    given_by person (opened >>= λ _. read >>= event_by rest)) IsNamed
parts_named value rest (Err fault) read stamp = tt
parts_named value rest (Ok opened) (Err fault) stamp = tt
parts_named value rest (Ok opened) (Ok kind) (Err fault) = tt
parts_named value rest (Ok opened) (Ok kind) (Ok at) = kind_named value rest kind

-- what a value says
value_named : (value : Data) → IfOk (named_in value) IsNamed
unfolding named_in person_in event_in
value_named value =
    rw (still_object (codes "by") value, other_field (codes "ev") (codes "by") (word kind_words) value refl)
    (parts_named value (without (codes "by") value) (object_here value) (required (codes "ev") (word kind_words) value)
    (required (codes "at") (count 0 greatest_u64) value))

-- what a line is read as
read_named : (line : List ℕ) → IfOk (named_read_of line) IsNamed
read_named line = search (rules, any_before, value_named)

-- the same of what a line says without a fault
pub record IsSaid (named : PlainNamed) : Type 0 where
  pub orderly : is_orderly named.event ≡ true
  pub person : is_desk named.event ≡ true → is_some named.person ≡ true

-- what was read and has no fault in its chart is orderly and named
valid_said : (found named : PlainNamed) (fault : Option ChartFault) → fault_within found.event ≡ fault
    → IsNamed found → unless_faulty found fault ≡ Ok named → IsSaid named
valid_said found named None none told is =
    let same : found ≡ named = cc in rw (← same) (record { orderly = told.orderly none; person = told.person })
valid_said found named (Some fault) some told is = absurd cc

-- and so is what was read of a line without a fault
said_said : (read : ReadResult PlainNamed) (named : PlainNamed) → IfOk read IsNamed → of_named read ≡ Ok named
    → IsSaid named
said_said (Ok found) named told is = valid_said found named (fault_within found.event) refl told is
said_said (Err fault) named told is = absurd cc

-- what a line says is orderly, and names a person where it is of the desk
pub line_said : (line : List ℕ) (named : PlainNamed) → named_of line ≡ Ok named → IsSaid named
unfolding named_of
line_said line named is = said_said (named_read_of line) named (read_named line) is

-- a command of the desk that a line says has a person
pub desk_named : (line : List ℕ) (named : PlainNamed) → named_of line ≡ Ok named → is_desk named.event ≡ true
    → is_some named.person ≡ true
desk_named line named is = (line_said line named is).person

-- what was told of a value is orderly
pub told_orderly : (value : Data) (result : Result Named LineRefusal) → TellsNamed result (of_named (named_in value))
    → IfOk result (λ named. IsTrue (is_orderly (plain_event named.event)))
told_orderly value (Ok named) tells =
    (said_said (named_in value) (plain_named named) (value_named value) tells).orderly
told_orderly value (Err refusal) tells = tt

-- what was told of a value names a person where it is of the desk
pub told_person : (value : Data) (result : Result Named LineRefusal) → TellsNamed result (of_named (named_in value))
    → IfOk result (λ named. is_desk (plain_event named.event) ≡ true → is_some named.by ≡ true)
told_person value (Ok named) tells =
    (said_said (named_in value) (plain_named named) (value_named value) tells).person
told_person value (Err refusal) tells = tt
