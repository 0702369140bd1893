-- What lines say here they say in a journal or under a policy.
use Rattle.std.proofs.Common.{◌≡◌, ℕ, Bool, List, [], ◌∷◌, true, false, Option, Some, None, Err, Ok, refl, ap, ◌∙◌}
use Rattle.std.proofs.lemmas.Bool.{and_parts}
use Rattle.std.proofs.lemmas.Slice.Eq.{bytes_eq-Decides}
use Rattle.std.specs.Prelude.{codes, IfOk, if◌then◌else◌, ⊤, not, ◌||◌}
use Rattle.std.specs.List.{list_all}
use Rattle.std.specs.Str.{bytes_eq}
use Rattle.serde_json.specs.Data.{Data, null, boolean, number, string, array, object}
use Rattle.serde_json.specs.Find.{get}
use Rattle.mtp_codes.specs.Codes.{command_codes}
use Rattle.mtp_codes.specs.Numbers.{greatest_u64}
use Rattle.mtp_codes.specs.declared.command.Command.{Command}
use Rattle.mtp_json.specs.declared.fault.JsonFault.{JsonFault}
use Rattle.mtp_json.specs.Form.{nothing_but, object_here, present, required}
use Rattle.mtp_json.specs.Leaf.{code, count, meaning_of, name, or_out_of_range, word}
use Rattle.mtp_json.specs.Parse.{json_of}
use Rattle.mtp_json.specs.ReadResult.{Finding, ReadResult, ◌>>=◌, here, under}
use Rattle.chart_core.specs.declared.fault.ChartFault.{ChartFault}
use Rattle.pol_events.specs.Events.{PlainEvent, desk}
use Rattle.event_json.specs.declared.kind.EventKind.{EventKind}
use Rattle.event_json.specs.declared.kind.EventKind.TheVariants.{Desk}
use Rattle.event_json.specs.Forms.{desk_in, event_by, event_in}
use Rattle.event_json.specs.Guarded.{PlainGuarded, guarded_by, guarded_desk_in, guarded_in, guarded_of}
use Rattle.event_json.specs.Guarded.{is_desk_kind, of_guarded, unnamed}
use Rattle.event_json.specs.Lines.{event_of, fault_within, of_line, unless_faulty}
use Rattle.event_json.specs.Words.{kind_words}
use Rattle.named_lines.specs.Lines.{IsOfDesk, NamesNobody, as_guarded, by_nobody, found_at}
use Rattle.named_lines.specs.Named.{PlainNamed, given_by, named_in, named_of, of_named, person_in, person_of}
use Rattle.named_lines.proofs.Without.{absent_key, desk_keys, other_field, still_object}
use Rattle.named_lines.proofs.Stamps.{IsUnnamed, kind_unnamed, stamp_first}

-- ---- the kind of the desk

-- a kind of the desk is Desk
desk_kind : (kind : EventKind) → is_desk_kind kind ≡ true → kind ≡ Desk
desk_kind Desk is = refl
desk_kind _ is = absurd cc

-- each word of a kind of the desk is this one
abbrev tell_desk : List (List ℕ × EventKind) → Bool
tell_desk rows = list_all (λ row. not (is_desk_kind row.1) || bytes_eq row.0 (codes "desk")) rows

-- a text that means a kind of the desk is the word of the desk
desk_row : (bytes : List ℕ) (rows : List (List ℕ × EventKind)) (kind : EventKind) → tell_desk rows ≡ true
    → meaning_of bytes rows ≡ Some kind → is_desk_kind kind ≡ true → bytes ≡ codes "desk"
desk_row bytes [] kind tell means is = absurd cc
desk_row bytes (row ∷ rows) kind tell means is =
    let parts = and_parts (not (is_desk_kind row.1) || bytes_eq row.0 (codes "desk")) (tell_desk rows) tell in
    go (bytes_eq bytes row.0) refl means parts.0 (λ later. desk_row bytes rows kind parts.1 later is)
  where
    word_of : not (is_desk_kind row.1) || bytes_eq row.0 (codes "desk") ≡ true → row.1 ≡ kind → row.0 ≡ codes "desk"
    word_of told same = (bytes_eq-Decides row.0 (codes "desk")).0 (rw (same, is) at told)

    go : (found : Bool) → bytes_eq bytes row.0 ≡ found
        → (if found then Some row.1 else meaning_of bytes rows) ≡ Some kind
        → (not (is_desk_kind row.1) || bytes_eq row.0 (codes "desk") ≡ true)
        → (meaning_of bytes rows ≡ Some kind → bytes ≡ codes "desk") → bytes ≡ codes "desk"
    go true found means told later =
        let same : row.1 ≡ kind = cc in (bytes_eq-Decides bytes row.0).0 found ∙ word_of told same
    go false found means told later = later means

-- a text that was found to mean a kind of the desk
desk_text_at : (meant : Option EventKind) (bytes : List ℕ) (kind : EventKind) → meaning_of bytes kind_words ≡ meant
    → under (codes "ev") (here (or_out_of_range meant)) ≡ Ok kind → is_desk_kind kind ≡ true → bytes ≡ codes "desk"
desk_text_at None bytes kind means read is = absurd cc
desk_text_at (Some found) bytes kind means read is =
    let same : found ≡ kind = cc in desk_row bytes kind_words kind refl (means ∙ ap Some same) is

-- what is at `ev` where the kind is of the desk
desk_word_at : (found : Option Data) (kind : EventKind)
    → under (codes "ev") (here (present (word kind_words) found)) ≡ Ok kind
    → is_desk_kind kind ≡ true → found ≡ Some (string (codes "desk"))
desk_word_at None kind read is = absurd cc
desk_word_at (Some null) kind read is = absurd cc
desk_word_at (Some (boolean bit)) kind read is = absurd cc
desk_word_at (Some (number held)) kind read is = absurd cc
desk_word_at (Some (string bytes)) kind read is =
    ap (λ text. Some (string text)) (desk_text_at (meaning_of bytes kind_words) bytes kind refl read is)
desk_word_at (Some (array values)) kind read is = absurd cc
desk_word_at (Some (object found)) kind read is = absurd cc

-- a value whose kind is of the desk has its word at `ev`
desk_word : (value : Data) (kind : EventKind) → required (codes "ev") (word kind_words) value ≡ Ok kind
    → is_desk_kind kind ≡ true → get (codes "ev") value ≡ Some (string (codes "desk"))
desk_word value kind read is = desk_word_at (get (codes "ev") value) kind read is

-- ---- a line that names nobody

-- a value that names nobody says what it says in a journal, by its object, its kind and its stamp
unnamed_parts : (opened : ReadResult ⊤) (read : ReadResult EventKind) (stamp : ReadResult ℕ) (value : Data)
    → IsUnnamed value → ((kind : EventKind) → read ≡ Ok kind → is_desk_kind kind ≡ false)
    → ((kind : EventKind) (fault : JsonFault) → stamp ≡ Err fault → event_by value kind ≡ Err fault)
    → ((opened >>= λ _. read >>= λ kind. stamp >>= λ _. person_of value kind) >>= λ person.
    given_by person (opened >>= λ _. read >>= event_by value))
    ≡ given_by None (opened >>= λ _. read >>= event_by value)
unnamed_parts (Err fault) read stamp value none other first = refl
unnamed_parts (Ok opened) (Err fault) stamp value none other first = refl
unnamed_parts (Ok opened) (Ok kind) (Err fault) value none other first = rw (first kind fault refl) refl
unnamed_parts (Ok opened) (Ok kind) (Ok at) value none other first = rw (other kind refl, none) refl

-- a value that names nobody and isn't of the desk
unnamed_value : (value : Data) → IsUnnamed value
    → ((kind : EventKind) → required (codes "ev") (word kind_words) value ≡ Ok kind → is_desk_kind kind ≡ false)
    → named_in value ≡ given_by None (event_in value)
unfolding named_in person_in event_in
unnamed_value value none other =
    rw (absent_key (codes "by") value none)
    (unnamed_parts (object_here value) (required (codes "ev") (word kind_words) value)
    (required (codes "at") (count 0 greatest_u64) value) value none other (stamp_first value))

-- an event of nobody is told as in a journal, whether or not its chart has a fault
nobody_at : (event : PlainEvent) (fault : Option ChartFault)
    → unless_faulty (record { event = event; person = None }) fault ≡ by_nobody (unless_faulty event fault)
nobody_at event None = refl
nobody_at event (Some fault) = refl

-- what is read of nobody is told as in a journal
nobody_told : (read : ReadResult PlainEvent) → of_named (given_by None read) ≡ by_nobody (of_line read)
nobody_told (Ok event) = nobody_at event (fault_within event)
nobody_told (Err fault) = refl

-- a kind that isn't of the desk
other_kind : (value : Data) → (get (codes "ev") value ≡ Some (string (codes "desk")) → ⊥) → (kind : EventKind)
    → required (codes "ev") (word kind_words) value ≡ Ok kind → is_desk_kind kind ≡ false
other_kind value other kind read = go (is_desk_kind kind) refl
  where
    go : (is : Bool) → is_desk_kind kind ≡ is → is ≡ false
    go true is = absurd (other (desk_word value kind read is))
    go false is = refl

-- what was found of a line that names nobody and isn't of the desk
unnamed_found : (found : Finding Data) → found_at (codes "by") found ≡ None
    → (found_at (codes "ev") found ≡ Some (string (codes "desk")) → ⊥)
    → of_named (here found >>= named_in) ≡ by_nobody (of_line (here found >>= event_in))
unnamed_found (Ok value) none other =
    rw (unnamed_value value none (other_kind value other)) (nobody_told (event_in value))
unnamed_found (Err kind) none other = refl

-- a line that names nobody and isn't of the desk says what it says in a journal
pub unnamed_alike : (line : List ℕ) → NamesNobody line → (IsOfDesk line → ⊥) → named_of line ≡ by_nobody (event_of line)
unfolding named_of event_of
unnamed_alike line none other = unnamed_found (json_of line) none other

-- ---- a command of the desk

-- what is said under a policy, before its chart is asked
abbrev pub of_guard : ReadResult PlainGuarded → ReadResult PlainNamed
of_guard read = read >>= λ guarded. Ok (record { event = guarded.event; person = guarded.person })

-- a command of the desk by its fields
desk_parts : (opened : ReadResult ⊤) (at : ReadResult ℕ) (by tag service : ReadResult (List ℕ))
    (command : ReadResult Command) (only : ReadResult ⊤)
    → ((opened >>= λ _. at >>= λ _. by >>= λ person. Ok (Some person)) >>= λ person.
    given_by person (opened >>= λ _. at >>= λ at. tag >>= λ tag. service >>= λ service. command >>= λ command.
    only >>= λ _. Ok (desk at tag service command)))
    ≡ of_guard (opened >>= λ _. at >>= λ at. by >>= λ person. tag >>= λ tag. service >>= λ service.
    command >>= λ command. only >>= λ _. Ok (record { event = desk at tag service command; person = Some person }))
desk_parts (Err fault) at by tag service command only = refl
desk_parts (Ok opened) (Err fault) by tag service command only = refl
desk_parts (Ok opened) (Ok at) (Err fault) tag service command only = refl
desk_parts (Ok opened) (Ok at) (Ok person) (Err fault) service command only = refl
desk_parts (Ok opened) (Ok at) (Ok person) (Ok tag) (Err fault) command only = refl
desk_parts (Ok opened) (Ok at) (Ok person) (Ok tag) (Ok service) (Err fault) only = refl
desk_parts (Ok opened) (Ok at) (Ok person) (Ok tag) (Ok service) (Ok command) (Err fault) = refl
desk_parts (Ok opened) (Ok at) (Ok person) (Ok tag) (Ok service) (Ok command) (Ok only) = refl

-- a value of the desk says what it says under a policy
desk_value : (value : Data) → required (codes "ev") (word kind_words) value ≡ Ok Desk
    → named_in value ≡ of_guard (guarded_in value)
unfolding named_in person_in event_in guarded_in desk_in guarded_desk_in
desk_value value read =
    rw (
      still_object (codes "by") value,
      other_field (codes "ev") (codes "by") (word kind_words) value refl,
      read,
      other_field (codes "at") (codes "by") (count 0 greatest_u64) value refl,
      other_field (codes "tag") (codes "by") name value refl,
      other_field (codes "service") (codes "by") name value refl,
      other_field (codes "CommandOp") (codes "by") (code command_codes) value refl,
      desk_keys value,
    )
    (desk_parts (object_here value) (required (codes "at") (count 0 greatest_u64) value)
    (required (codes "by") name value) (required (codes "tag") name value) (required (codes "service") name value)
    (required (codes "CommandOp") (code command_codes) value)
    (nothing_but (codes "ev at by tag service CommandOp") value))

-- an event with its person is told as under a policy, whether or not its chart has a fault
guarded_at : (guarded : PlainGuarded) (fault : Option ChartFault)
    → unless_faulty (record { event = guarded.event; person = guarded.person }) fault
    ≡ as_guarded (unless_faulty guarded fault)
guarded_at guarded None = refl
guarded_at guarded (Some fault) = refl

-- what is read under a policy is told so
guarded_told : (read : ReadResult PlainGuarded) → of_named (of_guard read) ≡ as_guarded (of_guarded read)
guarded_told (Ok guarded) = guarded_at guarded (fault_within guarded.event)
guarded_told (Err fault) = refl

-- what was found of a command of the desk
desk_found : (found : Finding Data) → found_at (codes "ev") found ≡ Some (string (codes "desk"))
    → of_named (here found >>= named_in) ≡ as_guarded (of_guarded (here found >>= guarded_in))
desk_found (Ok value) is =
    let read : required (codes "ev") (word kind_words) value ≡ Ok Desk = rw is refl in
    rw (desk_value value read) (guarded_told (guarded_in value))
desk_found (Err kind) is = refl

-- a command of the desk says what it says under a policy
pub desk_alike : (line : List ℕ) → IsOfDesk line → named_of line ≡ as_guarded (guarded_of line)
unfolding named_of guarded_of
desk_alike line is = desk_found (json_of line) is

-- ---- what is said under a policy

-- what is read of nobody
unnamed_parts_of : (read : ReadResult PlainEvent) (said : PlainGuarded) → unnamed read ≡ Ok said
    → given_by None read ≡ of_guard (Ok said)
unnamed_parts_of (Ok event) said is = let same : record { event = event; person = None } ≡ said = cc in rw (← same) refl
unnamed_parts_of (Err fault) said is = absurd cc

-- a value that is read under a policy says the same, whatever its kind
guarded_kind : (value : Data) (said : PlainGuarded) (kind : EventKind) (is : Bool) → is_desk_kind kind ≡ is
    → object_here value ≡ Ok tt → required (codes "ev") (word kind_words) value ≡ Ok kind
    → (if is then guarded_desk_in value else unnamed (event_by value kind)) ≡ Ok said
    → named_in value ≡ of_guard (Ok said)
unfolding guarded_in event_in
guarded_kind value said kind true is opened read says =
    let desk_read : required (codes "ev") (word kind_words) value ≡ Ok Desk = read ∙ ap Ok (desk_kind kind is) in
    desk_value value desk_read ∙ rw (opened, desk_read, says) refl
guarded_kind value said kind false is opened read says =
    let other : (found : EventKind) → required (codes "ev") (word kind_words) value ≡ Ok found
    → is_desk_kind found ≡ false = λ found again. let same : kind ≡ found = cc in rw (← same) is in
    unnamed_value value (known (event_by value kind) (kind_unnamed value kind) says) other
    ∙ rw (opened, read) (unnamed_parts_of (event_by value kind) said says)
  where
    known : (event : ReadResult PlainEvent) → IfOk event (λ _. IsUnnamed value) → unnamed event ≡ Ok said
        → IsUnnamed value
    known (Ok event) has says = has
    known (Err fault) has says = absurd cc

-- a value that is read under a policy says the same
guarded_value : (value : Data) (said : PlainGuarded) → guarded_in value ≡ Ok said → named_in value ≡ of_guard (Ok said)
unfolding guarded_in
guarded_value value said says =
    go (object_here value) (required (codes "ev") (word kind_words) value) refl refl says
  where
    go : (opened : ReadResult ⊤) (read : ReadResult EventKind) → object_here value ≡ opened
        → required (codes "ev") (word kind_words) value ≡ read
        → (opened >>= λ _. read >>= guarded_by value) ≡ Ok said → named_in value ≡ of_guard (Ok said)
    go (Err fault) read is kind says = absurd cc
    go (Ok opened) (Err fault) is kind says = absurd cc
    go (Ok opened) (Ok found) is kind says = guarded_kind value said found (is_desk_kind found) refl is kind says

-- what was found of a line that is read under a policy
guarded_found : (found : Finding Data) (said : PlainGuarded) → of_guarded (here found >>= guarded_in) ≡ Ok said
    → of_named (here found >>= named_in) ≡ as_guarded (Ok said)
guarded_found (Err kind) said says = absurd cc
guarded_found (Ok value) said says = go (guarded_in value) refl says
  where
    go : (read : ReadResult PlainGuarded) → guarded_in value ≡ read → of_guarded read ≡ Ok said
        → of_named (named_in value) ≡ as_guarded (Ok said)
    go (Err fault) is says = absurd cc
    go (Ok guarded) is says =
        ap of_named (guarded_value value guarded is) ∙ guarded_told (Ok guarded) ∙ ap as_guarded says

-- what a line says under a policy it says here
pub guarded_alike : (line : List ℕ) (said : PlainGuarded) → guarded_of line ≡ Ok said
    → named_of line ≡ as_guarded (Ok said)
unfolding named_of guarded_of
guarded_alike line said says = guarded_found (json_of line) said says
