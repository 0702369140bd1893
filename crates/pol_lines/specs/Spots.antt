-- Where a flat line is at fault.
use Rattle.std.specs.Prelude.{ℕ, List, [], ◌∷◌, Bool, ◌&&◌, Option, None, Some, Result, Ok, Err, codes, ⊤}
use Rattle.std.specs.Prelude.{if◌then◌else◌}
use Rattle.serde_json.specs.Data.{Data}
use Rattle.mtp_codes.specs.Codes.{command_codes}
use Rattle.mtp_codes.specs.Numbers.{greatest_u32, greatest_u64}
use Rattle.mtp_json.specs.declared.fault.FaultKind.{FaultKind}
use Rattle.mtp_json.specs.declared.fault.JsonFault.{JsonFault}
use Rattle.mtp_json.specs.declared.path.PathPart.{PathPart}
use Rattle.mtp_json.specs.declared.path.PathPart.TheVariants as part
use Rattle.mtp_json.specs.Form.{nothing_but, required}
use Rattle.mtp_json.specs.Leaf.{code, count, name, scalar, word}
use Rattle.mtp_json.specs.ReadResult.{Finding, ReadResult, ◌>>=◌}
use Rattle.event_json.specs.declared.kind.EventKind.{EventKind}
use Rattle.event_json.specs.declared.kind.EventKind.TheVariants.{Plug, Unplug, Report, Variable, Recipe, Start, Advance}
use Rattle.event_json.specs.declared.kind.EventKind.TheVariants.{Freeze, Thaw, Stop, Abandon, Desk, ExchangeBegin}
use Rattle.event_json.specs.declared.kind.EventKind.TheVariants.{ExchangeEnd, ExchangeCancel}
use Rattle.event_json.specs.Forms.{control_in}
use Rattle.event_json.specs.Guarded.{is_desk_kind}
use Rattle.event_json.specs.Words.{kind_words}
use Rattle.pol_lines.specs.declared.key.Key.{Key}
use Rattle.pol_lines.specs.declared.spots.Spot.{Spot}
use Rattle.pol_lines.specs.Keys.{key_text}
use Rattle.pol_lines.specs.Kinds.{keys_of}

-- the path to a key, or to the whole line
abbrev pub path_to : Option Key → List PathPart
path_to None = []
path_to (Some key) = part.Key (key_text key) ∷ []

-- the fault at a spot
abbrev pub fault_at : Spot → JsonFault
fault_at spot = record { kind = spot.kind; path = path_to spot.key }

-- what was read, with its fault's path
abbrev pub told : {A : Type 0} → Result A Spot → ReadResult A
told (Ok value) = Ok value
told (Err spot) = Err (fault_at spot)

-- what is wrong, if something is
abbrev pub fault_of : {A : Type 0} → Finding A → Option FaultKind
fault_of (Ok value) = None
fault_of (Err kind) = Some kind

-- what is wrong at a key, if something is
abbrev pub at_key : List ℕ → Option FaultKind → ReadResult ⊤
at_key key None = Ok tt
at_key key (Some kind) = Err (record { kind = kind; path = part.Key key ∷ [] })

-- the fault, if there was one, and nothing of what was read
abbrev pub judged : {A : Type 0} → ReadResult A → ReadResult ⊤
judged (Ok value) = Ok tt
judged (Err fault) = Err fault

-- the first fault of a variable's value
abbrev pub variable_judged : Data → ReadResult ⊤
variable_judged value =
    required (codes "at") (count 0 greatest_u64) value >>= λ _.
    required (codes "tag") name value >>= λ _.
    required (codes "name") name value >>= λ _.
    judged (required (codes "value") scalar value) >>= λ _.
    nothing_but (keys_of Variable) value

-- the first fault of a report
abbrev pub report_judged : Data → ReadResult ⊤
report_judged value =
    required (codes "at") (count 0 greatest_u64) value >>= λ _.
    required (codes "tag") name value >>= λ _.
    required (codes "service") name value >>= λ _.
    control_in value >>= λ _.
    nothing_but (keys_of Report) value

-- the first fault of an operator's command
abbrev pub desk_judged : Data → ReadResult ⊤
desk_judged value =
    required (codes "at") (count 0 greatest_u64) value >>= λ _.
    required (codes "tag") name value >>= λ _.
    required (codes "service") name value >>= λ _.
    required (codes "CommandOp") (code command_codes) value >>= λ _.
    nothing_but (keys_of Desk) value

-- the first fault of the cancelling of an exchange
abbrev pub cancel_judged : Data → ReadResult ⊤
cancel_judged value =
    required (codes "at") (count 0 greatest_u64) value >>= λ _.
    required (codes "tag") name value >>= λ _.
    required (codes "ticket") (count 0 greatest_u32) value >>= λ _.
    nothing_but (keys_of ExchangeCancel) value

-- the first fault of an event that names a tag and nothing more
abbrev pub tag_judged : Data → ReadResult ⊤
tag_judged value =
    required (codes "at") (count 0 greatest_u64) value >>= λ _.
    required (codes "tag") name value >>= λ _.
    nothing_but (keys_of Unplug) value

-- the first fault of an event that names a batch and nothing more
abbrev pub batch_judged : Data → ReadResult ⊤
batch_judged value =
    required (codes "at") (count 0 greatest_u64) value >>= λ _.
    required (codes "batch") name value >>= λ _.
    nothing_but (keys_of Advance) value

-- the first fault of a flat line of a kind; no fault of the kinds that aren't judged here
abbrev pub judged_by : Data → EventKind → ReadResult ⊤
judged_by value Plug = Ok tt
judged_by value Unplug = tag_judged value
judged_by value Report = report_judged value
judged_by value Variable = variable_judged value
judged_by value Recipe = Ok tt
judged_by value Start = Ok tt
judged_by value Advance = batch_judged value
judged_by value Freeze = Ok tt
judged_by value Thaw = batch_judged value
judged_by value Stop = batch_judged value
judged_by value Abandon = batch_judged value
judged_by value Desk = desk_judged value
judged_by value ExchangeBegin = tag_judged value
judged_by value ExchangeEnd = Ok tt
judged_by value ExchangeCancel = cancel_judged value

-- the first fault of an operator's command under a policy
abbrev pub named_desk_judged : Data → ReadResult ⊤
named_desk_judged value =
    required (codes "at") (count 0 greatest_u64) value >>= λ _.
    required (codes "by") name value >>= λ _.
    required (codes "tag") name value >>= λ _.
    required (codes "service") name value >>= λ _.
    required (codes "CommandOp") (code command_codes) value >>= λ _.
    nothing_but (codes "ev at by tag service CommandOp") value

-- the first fault of a flat line of a kind, under a policy where `guarded` says so
abbrev pub kind_judged : Bool → Data → EventKind → ReadResult ⊤
kind_judged guarded value kind =
    if guarded && is_desk_kind kind then named_desk_judged value else judged_by value kind

-- the first fault of a flat line, under a policy where `guarded` says so
abbrev pub line_judged : Bool → Data → ReadResult ⊤
line_judged guarded value =
    required (codes "ev") (word kind_words) value >>= λ kind.
    kind_judged guarded value kind
