-- What the forms of all kinds of events have in common: the stamp comes first, none has the key `by`, and an event is
-- of the desk exactly where its kind is.
use Rattle.std.proofs.Common.{◌≡◌, ℕ, List, false, None, Err, Ok, rules, refl}
use Rattle.std.specs.Prelude.{codes, IfOk, ⊤}
use Rattle.serde_json.specs.Data.{Data}
use Rattle.serde_json.specs.Find.{get}
use Rattle.mtp_codes.specs.Numbers.{greatest_u64}
use Rattle.mtp_json.specs.declared.fault.JsonFault.{JsonFault}
use Rattle.mtp_json.specs.Form.{is_listed, nothing_but, required}
use Rattle.mtp_json.specs.Leaf.{count}
use Rattle.mtp_json.specs.ReadResult.{ReadResult, ◌>>=◌}
use Rattle.chart_json.proofs.Told.{any_before}
use Rattle.event_json.specs.declared.kind.EventKind.{EventKind}
use Rattle.event_json.specs.declared.kind.EventKind.TheVariants.{Plug, Unplug, Report, Variable, Recipe, Start, Advance}
use Rattle.event_json.specs.declared.kind.EventKind.TheVariants.{Freeze, Thaw, Stop, Abandon, Desk, ExchangeBegin}
use Rattle.event_json.specs.declared.kind.EventKind.TheVariants.{ExchangeEnd, ExchangeCancel}
use Rattle.event_json.specs.Forms.{plug_in, tag_in, report_in, variable_in, desk_in, exchange_end_in}
use Rattle.event_json.specs.Forms.{exchange_cancel_in, recipe_in, start_in, freeze_in, batch_in, event_by}
use Rattle.event_json.specs.Guarded.{is_desk, is_desk_kind}
use Rattle.named_lines.proofs.Without.{unlisted_key}

-- a fault of the stamp is the event's first, whatever its kind
pub stamp_first : (value : Data) (kind : EventKind) (fault : JsonFault)
    → required (codes "at") (count 0 greatest_u64) value ≡ Err fault → event_by value kind ≡ Err fault
unfolding plug_in tag_in report_in variable_in desk_in exchange_end_in exchange_cancel_in freeze_in batch_in
    recipe_in start_in
stamp_first value Plug fault is = rw is refl
stamp_first value Unplug fault is = rw is refl
stamp_first value Report fault is = rw is refl
stamp_first value Variable fault is = rw is refl
stamp_first value Recipe fault is = rw is refl
stamp_first value Start fault is = rw is refl
stamp_first value Advance fault is = rw is refl
stamp_first value Freeze fault is = rw is refl
stamp_first value Thaw fault is = rw is refl
stamp_first value Stop fault is = rw is refl
stamp_first value Abandon fault is = rw is refl
stamp_first value Desk fault is = rw is refl
stamp_first value ExchangeBegin fault is = rw is refl
stamp_first value ExchangeEnd fault is = rw is refl
stamp_first value ExchangeCancel fault is = rw is refl

-- a value has no key `by`
abbrev pub IsUnnamed : Data → Type 0
IsUnnamed value = get (codes "by") value ≡ None

-- where no key but these was found, and `by` is none of them, there is no key `by`
only_before : {B : Type 0} (keys : List ℕ) (value : Data) (next : ⊤ → ReadResult B)
    → is_listed keys (codes "by") ≡ false → IfOk (nothing_but keys value >>= next) (λ _. IsUnnamed value)
only_before {B} keys value next out = go (nothing_but keys value) refl
  where
    known : (read : ReadResult B) → IsUnnamed value → IfOk read (λ _. IsUnnamed value)
    known (Ok found) has = has
    known (Err fault) has = tt

    go : (read : ReadResult ⊤) → nothing_but keys value ≡ read → IfOk (read >>= next) (λ _. IsUnnamed value)
    go (Ok done) is = known (next done) (unlisted_key keys (codes "by") value out is)
    go (Err fault) is = tt

-- an event that is read has no key `by`, whatever its kind
pub kind_unnamed : (value : Data) (kind : EventKind) → IfOk (event_by value kind) (λ _. IsUnnamed value)
unfolding plug_in tag_in report_in variable_in desk_in exchange_end_in exchange_cancel_in freeze_in batch_in
    recipe_in start_in
kind_unnamed value Plug = search (rules, only_before, any_before)
kind_unnamed value Unplug = search (rules, only_before, any_before)
kind_unnamed value Report = search (rules, only_before, any_before)
kind_unnamed value Variable = search (rules, only_before, any_before)
kind_unnamed value Recipe = search (rules, only_before, any_before)
kind_unnamed value Start = search (rules, only_before, any_before)
kind_unnamed value Advance = search (rules, only_before, any_before)
kind_unnamed value Freeze = search (rules, only_before, any_before)
kind_unnamed value Thaw = search (rules, only_before, any_before)
kind_unnamed value Stop = search (rules, only_before, any_before)
kind_unnamed value Abandon = search (rules, only_before, any_before)
kind_unnamed value Desk = search (rules, only_before, any_before)
kind_unnamed value ExchangeBegin = search (rules, only_before, any_before)
kind_unnamed value ExchangeEnd = search (rules, only_before, any_before)
kind_unnamed value ExchangeCancel = search (rules, only_before, any_before)

-- an event is of the desk exactly where its kind is
pub kind_told : (value : Data) (kind : EventKind) → IfOk (event_by value kind)
    (λ event. is_desk event ≡ is_desk_kind kind)
unfolding plug_in tag_in report_in variable_in desk_in exchange_end_in exchange_cancel_in freeze_in batch_in
    recipe_in start_in
kind_told value Plug = search (rules, any_before)
kind_told value Unplug = search (rules, any_before)
kind_told value Report = search (rules, any_before)
kind_told value Variable = search (rules, any_before)
kind_told value Recipe = search (rules, any_before)
kind_told value Start = search (rules, any_before)
kind_told value Advance = search (rules, any_before)
kind_told value Freeze = search (rules, any_before)
kind_told value Thaw = search (rules, any_before)
kind_told value Stop = search (rules, any_before)
kind_told value Abandon = search (rules, any_before)
kind_told value Desk = search (rules, any_before)
kind_told value ExchangeBegin = search (rules, any_before)
kind_told value ExchangeEnd = search (rules, any_before)
kind_told value ExchangeCancel = search (rules, any_before)
