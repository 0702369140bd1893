-- What a line of version 1 says: the same event in version 2, but for a freeze, whose parts have their ranges.
use Rattle.std.proofs.Common.{◌≡◌, ℕ, Bool, List, true, false, cond, Option, Some, None, Ok, Err, rules, refl, ap, ◌∙◌}
use Rattle.std.proofs.Common.{subst}
use Rattle.std.specs.Prelude.{codes, IfOk, Result}
use Rattle.std.proofs.lemmas.Bool.{and_from}
use Rattle.serde_json.specs.Data.{Data}
use Rattle.serde_json.specs.Find.{as_str}
use Rattle.mtp_codes.specs.Names.{is_name}
use Rattle.mtp_codes.specs.Numbers.{greatest_u64, is_between}
use Rattle.mtp_json.specs.declared.fault.FaultKind.TheVariants.{OutOfRange}
use Rattle.mtp_json.specs.Form.{required, nothing_but, object_here}
use Rattle.mtp_json.specs.Leaf.{count, name, name_in, word}
use Rattle.mtp_json.specs.Parse.{json_of}
use Rattle.mtp_json.specs.ReadResult.{ReadResult, ◌>>=◌, here}
use Rattle.chart_core.specs.declared.fault.ChartFault.{ChartFault}
use Rattle.chart_json.proofs.Told.{any_before, told_before, told_need, told_count}
use Rattle.pol_events.specs.Events.{PlainEvent, freeze}
use Rattle.event_json.specs.declared.kind.EventKind.{EventKind}
use Rattle.event_json.specs.declared.kind.EventKind.TheVariants.{Plug, Unplug, Report, Variable, Recipe, Start, Advance}
use Rattle.event_json.specs.declared.kind.EventKind.TheVariants.{Freeze, Thaw, Stop, Abandon, Desk, ExchangeBegin}
use Rattle.event_json.specs.declared.kind.EventKind.TheVariants.{ExchangeEnd, ExchangeCancel}
use Rattle.event_json.specs.Forms.{plug_in, tag_in, report_in, variable_in, desk_in, exchange_end_in}
use Rattle.event_json.specs.Forms.{exchange_cancel_in, recipe_in, start_in, batch_in, event_by, event_in}
use Rattle.event_json.specs.Lines.{of_line, fault_within, unless_faulty, event_of}
use Rattle.event_json.specs.Version1.{event_by_version_1, event_in_version_1, event_of_version_1}
use Rattle.event_json.specs.Ranges.{is_stamped}
use Rattle.event_json.specs.Words.{kind_words}

-- the event is a freeze
abbrev pub is_a_freeze : PlainEvent → Bool
is_a_freeze (freeze at batch hold) = true
is_a_freeze _ = false

-- ---- another event

-- what is read is itself
self_read : (read : ReadResult PlainEvent) → IfOk read (λ event. is_a_freeze event ≡ false → read ≡ Ok event)
self_read (Ok event) = λ other. refl
self_read (Err fault) = tt

-- a kind that isn't Freeze says the same in both versions, and a freeze of version 1 is a freeze
kind_alike : (value : Data) (kind : EventKind) → IfOk (event_by_version_1 value kind)
    (λ event. is_a_freeze event ≡ false → event_by value kind ≡ Ok event)
unfolding batch_in
kind_alike value Freeze = search (rules, any_before)
kind_alike value _ = self_read _

-- and so does a value
value_alike : (value : Data) → IfOk (event_in_version_1 value)
    (λ event. is_a_freeze event ≡ false → event_in value ≡ Ok event)
unfolding event_in event_in_version_1
value_alike value =
    go (object_here value) (required (codes "ev") (word kind_words) value)
  where
    go : {A : Type 0} (opened : ReadResult A) (read : ReadResult EventKind) →
        IfOk (opened >>= λ _. read >>= event_by_version_1 value)
        (λ event. is_a_freeze event ≡ false → (opened >>= λ _. read >>= event_by value) ≡ Ok event)
    go (Err fault) read = tt
    go (Ok done) (Err fault) = tt
    go (Ok done) (Ok kind) = kind_alike value kind

-- an event that is read and whose chart has no fault
pub line_parts : (read : ReadResult PlainEvent) (event : PlainEvent) → of_line read ≡ Ok event →
    (read ≡ Ok event) × (fault_within event ≡ None)
line_parts (Err fault) event is = cc
line_parts (Ok found) event is =
    let parts = go (fault_within found) refl is in (ap Ok parts.0, parts.1)
  where
    go : (fault : Option ChartFault) → fault_within found ≡ fault → unless_faulty found fault ≡ Ok event →
        (found ≡ event) × (fault_within event ≡ None)
    go None none is =
        let same : found ≡ event = cc in (same, subst (λ event. fault_within event ≡ None) same none)
    go (Some fault) some is = cc

-- another event that a line of version 1 says, the same line says
pub line_alike : (line : List ℕ) (event : PlainEvent) → event_of_version_1 line ≡ Ok event →
    is_a_freeze event ≡ false → event_of line ≡ Ok event
unfolding event_of event_of_version_1
line_alike line event is other =
    let parts = line_parts (here (json_of line) >>= event_in_version_1) event is in
    ap of_line (go (here (json_of line)) parts.0) ∙ ap (unless_faulty event) parts.1
  where
    known : {E : Type 0} (read : Result PlainEvent E) (P : PlainEvent → Type 0) → IfOk read P → read ≡ Ok event
        → P event
    known (Ok found) P has is = let same : found ≡ event = cc in subst P same has
    known (Err fault) P has is = cc

    go : (read : ReadResult Data) → (read >>= event_in_version_1) ≡ Ok event → (read >>= event_in) ≡ Ok event
    go (Err fault) is = cc
    go (Ok value) is =
        known (event_in_version_1 value) (λ event. is_a_freeze event ≡ false → event_in value ≡ Ok event)
        (value_alike value) is other

-- ---- a freeze

-- the stamp and the batch of a freeze have their ranges
abbrev pub IsStampedFreeze : PlainEvent → Type 0
IsStampedFreeze (freeze at batch hold) = is_stamped at batch ≡ true
IsStampedFreeze _ = Unit {0}

-- a name that was read is a name
told_name : (value : Data) → IfOk (name value) (λ bytes. is_name bytes ≡ true)
told_name value = go (as_str value)
  where
    go : (found : Option (List ℕ)) → IfOk (name_in found) (λ bytes. is_name bytes ≡ true)
    go None = tt
    go (Some bytes) = kept (is_name bytes) refl
      where
        kept : (named : Bool) → is_name bytes ≡ named →
            IfOk (cond named (Ok bytes) (Err OutOfRange)) (λ bytes. is_name bytes ≡ true)
        kept true is = is
        kept false is = tt

-- a freeze of version 1 is stamped, by its form
kind_stamped : (value : Data) (kind : EventKind) → IfOk (event_by_version_1 value kind) IsStampedFreeze
unfolding plug_in tag_in report_in variable_in desk_in exchange_end_in exchange_cancel_in recipe_in start_in batch_in
kind_stamped value Plug = search (rules, any_before)
kind_stamped value Unplug = search (rules, any_before)
kind_stamped value Report = search (rules, any_before)
kind_stamped value Variable = search (rules, any_before)
kind_stamped value Recipe = search (rules, any_before)
kind_stamped value Start = search (rules, any_before)
kind_stamped value Advance = search (rules, any_before)
kind_stamped value Freeze =
    told_before (λ at. is_between 0 greatest_u64 at ≡ true) IsStampedFreeze
    (required (codes "at") (count 0 greatest_u64) value) _
    (told_need (λ at. is_between 0 greatest_u64 at ≡ true) (codes "at") (count 0 greatest_u64)
    (told_count 0 greatest_u64) value) (λ at between.
    told_before (λ batch. is_name batch ≡ true) IsStampedFreeze (required (codes "batch") name value) _
    (told_need (λ batch. is_name batch ≡ true) (codes "batch") name told_name value) (λ batch named.
    any_before IsStampedFreeze (nothing_but (codes "ev at batch") value) _
    (λ _. and_from (is_between 0 greatest_u64 at) (is_name batch) between named)))
kind_stamped value Thaw = search (rules, any_before)
kind_stamped value Stop = search (rules, any_before)
kind_stamped value Abandon = search (rules, any_before)
kind_stamped value Desk = search (rules, any_before)
kind_stamped value ExchangeBegin = search (rules, any_before)
kind_stamped value ExchangeEnd = search (rules, any_before)
kind_stamped value ExchangeCancel = search (rules, any_before)

-- so is one that a value says
value_stamped : (value : Data) → IfOk (event_in_version_1 value) IsStampedFreeze
unfolding event_in_version_1
value_stamped value = search (rules, any_before, kind_stamped)

-- and one that a line is read as
read_stamped : (line : List ℕ) → IfOk (here (json_of line) >>= event_in_version_1) IsStampedFreeze
read_stamped line = search (rules, any_before, value_stamped)

-- a freeze that a line of version 1 says has a stamp and a batch in their ranges
pub freeze_stamped : (line : List ℕ) (at : ℕ) (batch : List ℕ) (hold : Bool) →
    event_of_version_1 line ≡ Ok (freeze at batch hold) → is_stamped at batch ≡ true
unfolding event_of_version_1
freeze_stamped line at batch hold is =
    known (here (json_of line) >>= event_in_version_1) (read_stamped line)
    (line_parts (here (json_of line) >>= event_in_version_1) (freeze at batch hold) is).0
  where
    known : (read : ReadResult PlainEvent) → IfOk read IsStampedFreeze → read ≡ Ok (freeze at batch hold) →
        is_stamped at batch ≡ true
    known (Ok found) has is =
        let same : found ≡ freeze at batch hold = cc in subst IsStampedFreeze same has
    known (Err fault) has is = cc
