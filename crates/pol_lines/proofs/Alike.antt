-- What a line of a journal says it says under a policy and by version 1 too, but for commands of the desk and freezes.
use Rattle.std.proofs.Common.{◌≡◌, ℕ, List, true, false, None, Ok, Err, refl, ap, ◌∙◌, rules}
use Rattle.std.specs.Prelude.{IfOk, IsTrue, Result, codes}
use Rattle.serde_json.specs.Data.{Data}
use Rattle.mtp_json.specs.Form.{object_here, required}
use Rattle.mtp_json.specs.Leaf.{word}
use Rattle.mtp_json.specs.Parse.{json_of}
use Rattle.mtp_json.specs.ReadResult.{ReadResult, ◌>>=◌, here}
use Rattle.chart_json.proofs.Told.{any_before}
use Rattle.pol_events.specs.declared.event.Event.{Event}
use Rattle.pol_events.specs.Events.{PlainEvent, freeze, plain_event}
use Rattle.pol_events.specs.Orderly.{is_orderly}
use Rattle.event_json.specs.Forms.{desk_in, event_by, event_in, freeze_in}
use Rattle.event_json.specs.Guarded.{PlainGuarded, guarded_by, guarded_in, guarded_of, is_desk, of_guarded}
use Rattle.event_json.specs.Lines.{Tells, event_of, of_line, read_of}
use Rattle.event_json.specs.Version1.{event_by_version_1, event_in_version_1, event_of_version_1}
use Rattle.event_json.specs.Words.{kind_words}
use Rattle.event_json.specs.declared.kind.EventKind.{EventKind}
use Rattle.event_json.specs.declared.kind.EventKind.TheVariants.{Desk, Freeze}
use Rattle.event_json.specs.declared.fault.LineRefusal.{LineRefusal}
use Rattle.event_json.proofs.Orderly.{line_orderly}
use Rattle.event_json.proofs.Versions.{line_alike, line_parts}
use Rattle.pol_lines.specs.Versions.{is_freeze}

-- ---- any form by kinds

-- what one form gives for an object of some kind another gives too, where it does so for each kind
by_parts : {A X Y : Type 0} (object : ReadResult A) (kind : ReadResult EventKind) (form : EventKind → ReadResult X)
    (other : EventKind → ReadResult Y) (said : X) (again : Y)
    → ((kind : EventKind) → form kind ≡ Ok said → other kind ≡ Ok again)
    → (object >>= λ _. kind >>= form) ≡ Ok said → (object >>= λ _. kind >>= other) ≡ Ok again
by_parts (Ok object) (Ok kind) form other said again each says = each kind says
by_parts (Ok object) (Err fault) form other said again each says = absurd cc
by_parts (Err fault) kind form other said again each says = absurd cc

-- the same of values, and of the text that gives one
by_text : {X Y : Type 0} (read : ReadResult Data) (form : Data → ReadResult X) (other : Data → ReadResult Y)
    (said : X) (again : Y) → ((value : Data) → form value ≡ Ok said → other value ≡ Ok again)
    → (read >>= form) ≡ Ok said → (read >>= other) ≡ Ok again
by_text (Ok value) form other said again each says = each value says
by_text (Err fault) form other said again each says = absurd cc

-- ---- under a policy

-- an event of nobody
abbrev of_nobody : PlainEvent → PlainGuarded
of_nobody event = record { event = event; person = None }

-- an event in the form of the desk is of the desk
desk_told : (value : Data) → IfOk (desk_in value) (λ event. is_desk event ≡ true)
unfolding desk_in
desk_told value = search (rules, any_before)

-- a value of this kind that says another event
unnamed_kind : (value : Data) (event : PlainEvent) → is_desk event ≡ false → (kind : EventKind)
    → event_by value kind ≡ Ok event → guarded_by value kind ≡ Ok (of_nobody event)
unnamed_kind value event other Desk says = let of_desk = rw says at (desk_told value) in absurd (cc)
unnamed_kind value event other _ says = rw says refl

-- a value that says such an event
unnamed_value : (event : PlainEvent) → is_desk event ≡ false → (value : Data)
    → event_in value ≡ Ok event → guarded_in value ≡ Ok (of_nobody event)
unfolding event_in guarded_in
unnamed_value event other value says =
    by_parts (object_here value) (required (codes "ev") (word kind_words) value) (event_by value) (guarded_by value)
    event (of_nobody event) (unnamed_kind value event other) says

-- so an event that a line says and that isn't of the desk is said by nobody, under a policy too
pub said_by_nobody : (line : List ℕ) (event : PlainEvent) → event_of line ≡ Ok event → is_desk event ≡ false →
    guarded_of line ≡ Ok (of_nobody event)
unfolding event_of guarded_of
said_by_nobody line event says other =
    let read = line_parts (read_of line) event says in
    ap of_guarded (by_text (here (json_of line)) event_in guarded_in event (of_nobody event)
    (unnamed_value event other) read.0)
    ∙ rw read.1 refl

-- ---- by version 1

-- an event in the form of a freeze is a freeze
freeze_told : (value : Data) → IfOk (freeze_in value) (λ event. is_freeze event ≡ true)
unfolding freeze_in
freeze_told value = search (rules, any_before)

-- a value of this kind that says another event
first_kind : (value : Data) (event : PlainEvent) → is_freeze event ≡ false → (kind : EventKind)
    → event_by value kind ≡ Ok event → event_by_version_1 value kind ≡ Ok event
first_kind value event other Freeze says = let frozen = rw says at (freeze_told value) in absurd (cc)
first_kind value event other _ says = says

-- a value that says such an event
first_value : (event : PlainEvent) → is_freeze event ≡ false → (value : Data)
    → event_in value ≡ Ok event → event_in_version_1 value ≡ Ok event
unfolding event_in event_in_version_1
first_value event other value says =
    by_parts (object_here value) (required (codes "ev") (word kind_words) value) (event_by value)
    (event_by_version_1 value) event event (first_kind value event other) says

-- so an event that a line says and that is no freeze it says by version 1 too
pub said_in_version_1 : (line : List ℕ) (event : PlainEvent) → event_of line ≡ Ok event → is_freeze event ≡ false →
    event_of_version_1 line ≡ Ok event
unfolding event_of event_of_version_1
said_in_version_1 line event says other =
    let read = line_parts (read_of line) event says in
    ap of_line (by_text (here (json_of line)) event_in event_in_version_1 event event (first_value event other) read.0)
    ∙ rw read.1 refl

-- an event that a line says by version 1 is orderly
first_orderly : (line : List ℕ) (event : PlainEvent) → event_of_version_1 line ≡ Ok event → is_orderly event ≡ true
first_orderly line (freeze at batch hold) says = refl
first_orderly line event says = line_orderly line event (line_alike line event says refl)

-- and so is what was answered of the line
pub told_orderly : (line : List ℕ) (result : Result Event LineRefusal) → Tells result (event_of_version_1 line)
    → IfOk result (λ event. IsTrue (is_orderly (plain_event event)))
told_orderly line (Ok event) tells = first_orderly line (plain_event event) tells
told_orderly line (Err refusal) tells = tt
