-- What a line says under a policy is orderly, and a command of the desk names its operator.
use Rattle.std.proofs.Common.{◌≡◌, ℕ, Bool, List, true, false, Option, Some, None, Err, Ok, rules, refl}
use Rattle.std.specs.Prelude.{codes, IfOk, IsTrue, Result, is_some, if◌then◌else◌}
use Rattle.serde_json.specs.Data.{Data}
use Rattle.mtp_codes.specs.Codes.{command_codes}
use Rattle.mtp_codes.specs.Numbers.{greatest_u64}
use Rattle.mtp_json.specs.Form.{required, nothing_but}
use Rattle.mtp_json.specs.Leaf.{code, count, name}
use Rattle.mtp_json.specs.ReadResult.{ReadResult}
use Rattle.chart_core.specs.declared.fault.ChartFault.{ChartFault}
use Rattle.chart_json.proofs.Told.{any_before}
use Rattle.pol_events.specs.Events.{PlainEvent, plain_event}
use Rattle.pol_events.specs.Orderly.{is_orderly}
use Rattle.event_json.specs.declared.fault.LineRefusal.{LineRefusal}
use Rattle.event_json.specs.declared.guarded.Guarded.{Guarded}
use Rattle.event_json.specs.declared.kind.EventKind.{EventKind}
use Rattle.event_json.specs.declared.kind.EventKind.TheVariants.{Plug, Unplug, Report, Variable, Recipe, Start, Advance}
use Rattle.event_json.specs.declared.kind.EventKind.TheVariants.{Freeze, Thaw, Stop, Abandon, Desk, ExchangeBegin}
use Rattle.event_json.specs.declared.kind.EventKind.TheVariants.{ExchangeEnd, ExchangeCancel}
use Rattle.event_json.specs.Forms.{plug_in, tag_in, report_in, variable_in, desk_in, exchange_end_in}
use Rattle.event_json.specs.Forms.{exchange_cancel_in, recipe_in, start_in, freeze_in, batch_in, event_by}
use Rattle.event_json.specs.Guarded.{PlainGuarded, TellsGuarded, guarded_by, guarded_desk_in, guarded_in, guarded_of}
use Rattle.event_json.specs.Guarded.{guarded_read_of, is_desk, is_desk_kind, of_guarded, plain_guarded, unnamed}
use Rattle.event_json.specs.Lines.{fault_within, unless_faulty}
use Rattle.event_json.proofs.Orderly.{IsOrderly, kind_orderly}

-- the event is orderly, unless its chart has a fault, and it names a person exactly where it is of the desk
pub record IsNamed (guarded : PlainGuarded) : Type 0 where
  pub orderly : IsOrderly guarded.event
  pub named : is_some guarded.person ≡ is_desk guarded.event

-- an event is of the desk exactly where its kind is
kind_told : (value : Data) (kind : EventKind) → IfOk (event_by value kind) (λ event. is_desk event ≡ is_desk_kind kind)
unfolding plug_in tag_in report_in variable_in desk_in exchange_end_in exchange_cancel_in freeze_in batch_in
    recipe_in start_in
kind_told value Plug = search (rules, any_before)
kind_told value Unplug = search (rules, any_before)
kind_told value Report = search (rules, any_before)
kind_told value Variable = search (rules, any_before)
kind_told value Recipe = search (rules, any_before)
kind_told value Start = search (rules, any_before)
kind_told value Advance = search (rules, any_before)
kind_told value Freeze = search (rules, any_before)
kind_told value Thaw = search (rules, any_before)
kind_told value Stop = search (rules, any_before)
kind_told value Abandon = search (rules, any_before)
kind_told value Desk = search (rules, any_before)
kind_told value ExchangeBegin = search (rules, any_before)
kind_told value ExchangeEnd = search (rules, any_before)
kind_told value ExchangeCancel = search (rules, any_before)

-- a command of the desk is orderly and names a person
desk_named : (value : Data) → IfOk (guarded_desk_in value) IsNamed
unfolding guarded_desk_in
desk_named value =
    any_before IsNamed (required (codes "at") (count 0 greatest_u64) value) _ (λ at.
    any_before IsNamed (required (codes "by") name value) _ (λ person.
    any_before IsNamed (required (codes "tag") name value) _ (λ tag.
    any_before IsNamed (required (codes "service") name value) _ (λ service.
    any_before IsNamed (required (codes "CommandOp") (code command_codes) value) _ (λ command.
    any_before IsNamed (nothing_but (codes "ev at by tag service CommandOp") value) _
    (λ _. record { orderly = λ none. refl; named = refl }))))))

-- an orderly event that isn't of the desk, and names nobody
unnamed_named : (read : ReadResult PlainEvent) → IfOk read IsOrderly → IfOk read (λ event. is_desk event ≡ false)
    → IfOk (unnamed read) IsNamed
unnamed_named (Ok event) orderly other = record { orderly = orderly; named = rw other refl }
unnamed_named (Err fault) orderly other = tt

-- what a value says, where its kind is that of the desk and where it isn't
by_kind : (value : Data) (kind : EventKind) (is : Bool) → is_desk_kind kind ≡ is
    → IfOk (if is then guarded_desk_in value else unnamed (event_by value kind)) IsNamed
by_kind value kind true e = desk_named value
by_kind value kind false e =
    unnamed_named (event_by value kind) (kind_orderly value kind) (rw e at (kind_told value kind))

-- what a value of this kind says
kind_named : (value : Data) (kind : EventKind) → IfOk (guarded_by value kind) IsNamed
kind_named value kind = by_kind value kind (is_desk_kind kind) refl

-- what a value says
value_named : (value : Data) → IfOk (guarded_in value) IsNamed
unfolding guarded_in
value_named value = search (rules, any_before, kind_named)

-- what a line is read as
read_named : (line : List ℕ) → IfOk (guarded_read_of line) IsNamed
read_named line = search (rules, any_before, value_named)

-- the same of what a line says without a fault
pub record IsSaid (guarded : PlainGuarded) : Type 0 where
  pub orderly : is_orderly guarded.event ≡ true
  pub named : is_some guarded.person ≡ is_desk guarded.event

-- what was read and has no fault in its chart is orderly and named
valid_said : (found guarded : PlainGuarded) (fault : Option ChartFault) → fault_within found.event ≡ fault
    → IsNamed found → unless_faulty found fault ≡ Ok guarded → IsSaid guarded
valid_said found guarded None none told is =
    let same : found ≡ guarded = cc in rw (← same) (record { orderly = told.orderly none; named = told.named })
valid_said found guarded (Some fault) some told is = absurd cc

-- and so is what was read of a line without a fault
said_said : (read : ReadResult PlainGuarded) (guarded : PlainGuarded) → IfOk read IsNamed → of_guarded read ≡ Ok guarded
    → IsSaid guarded
said_said (Ok found) guarded told is = valid_said found guarded (fault_within found.event) refl told is
said_said (Err fault) guarded told is = absurd cc

-- what a line says is orderly, and names a person exactly where it is of the desk
pub line_said : (line : List ℕ) (guarded : PlainGuarded) → guarded_of line ≡ Ok guarded → IsSaid guarded
unfolding guarded_of
line_said line guarded is = said_said (guarded_read_of line) guarded (read_named line) is

-- what was told of a line is orderly
pub told_orderly : (line : List ℕ) (result : Result Guarded LineRefusal) → TellsGuarded result (guarded_of line)
    → IfOk result (λ guarded. IsTrue (is_orderly (plain_event guarded.event)))
told_orderly line (Ok guarded) tells = (line_said line (plain_guarded guarded) tells).orderly
told_orderly line (Err refusal) tells = tt

-- what was told of a line names a person exactly where it is of the desk
pub told_named : (line : List ℕ) (result : Result Guarded LineRefusal) → TellsGuarded result (guarded_of line)
    → IfOk result (λ guarded. is_some guarded.by ≡ is_desk (plain_event guarded.event))
told_named line (Ok guarded) tells = (line_said line (plain_guarded guarded) tells).named
told_named line (Err refusal) tells = tt
