-- What lies ahead of a module, on the way back over a history: whether it is replaced, what reads or moves it next, and
-- what its services and variables report before that.
use Rattle.std.specs.Prelude.{ℕ, ◌≡◌, Bool, true, false, List, [], Option, Some, None, option_map}
use Rattle.std.specs.Map.{lookup}
use Rattle.std.specs.Option.{option_map_or}
use Rattle.std.specs.Str.{bytes_eq}
use Rattle.indexmap.specs.IndexMap.{insert_entry}
use Rattle.mtp_codes.specs.declared.value.Value.{Value}
use Rattle.mtp_assembly.specs.declared.control.ServiceControl.{ServiceControl}
use Rattle.pol_events.specs.Events.{PlainEvent, plug, unplug, report, variable, desk, exchange_begin, exchange_end}
use Rattle.pol_events.specs.Events.{exchange_cancel, PlainEntry}
use Rattle.pol_history.specs.Looking.{History}
use Rattle.pol_history.specs.Modules.{reported, reported_value}
use Rattle.pol_compaction.specs.Fates.{next_of, report_fate, unless_replaced, value_fate}
use Rattle.pol_compaction.specs.Flags.{lasting_in}
use Rattle.pol_compaction.specs.Marks.{Mark, told, read, moved, marks_of}
use Rattle.pol_compaction.specs.Reading.{is_replaced}
use Rattle.pol_compaction.specs.declared.ahead.Ahead.{Ahead}
use Rattle.pol_compaction.specs.declared.ahead.Fate.{Fate}
use Rattle.pol_compaction.specs.declared.ahead.Fate.TheVariants.{Stays, Goes}
use Rattle.pol_compaction.specs.declared.ahead.Turn.{Turn}
use Rattle.pol_compaction.specs.declared.ahead.Turn.TheVariants.{Read, Moved}

-- ---- one module

-- whether a module is replaced, what it meets next, and what is reported before that
pub record PlainAhead : Type 0 where
  pub replaced : Bool
  pub turn : Option Turn
  pub controls : List (List ℕ × ServiceControl)
  pub values : List (List ℕ × Value)

-- what contracts see of what lies ahead of a module
abbrev pub plain_ahead : Ahead → PlainAhead
plain_ahead ahead = record {
  replaced = ahead.replaced;
  turn = ahead.turn;
  controls = ahead.controls.entries;
  values = ahead.values.entries;
}

-- nothing lies ahead
abbrev pub nothing_ahead : PlainAhead
nothing_ahead = record { replaced = false; turn = None; controls = []; values = [] }

-- what lies ahead of a module that is read or moved before anything is reported
abbrev pub turned : Turn → Bool → PlainAhead
turned turn replaced = record { replaced = replaced; turn = Some turn; controls = []; values = [] }

-- the mark of being read or moved
abbrev pub turn_mark : {A : Type 0} → Turn → Mark A
turn_mark Read = read
turn_mark Moved = moved

-- the next mark of a service or a variable, by what it reports before its module is read or moved, and by that
abbrev pub mark_ahead : {A : Type 0} → Option A → Option Turn → Option (Mark A)
mark_ahead (Some said) turn = Some (told said)
mark_ahead None turn = option_map turn_mark turn

-- the fate of an event of the module that lasts
abbrev pub fate_ahead : PlainAhead → PlainEvent → Fate
fate_ahead known (unplug at tag) = Goes
fate_ahead known (plug at tag description) = unless_replaced known.replaced Stays
fate_ahead known (exchange_begin at tag) = unless_replaced known.replaced Stays
fate_ahead known (exchange_end at tag ticket description) = unless_replaced known.replaced Stays
fate_ahead known (exchange_cancel at tag ticket) = unless_replaced known.replaced Stays
fate_ahead known (report at tag service control) =
    unless_replaced known.replaced
    (report_fate control.state (mark_ahead (lookup (bytes_eq service) known.controls) known.turn))
fate_ahead known (variable at tag name value) =
    unless_replaced known.replaced (value_fate (mark_ahead (lookup (bytes_eq name) known.values) known.turn))
fate_ahead known _ = Stays

-- what lies ahead of a module in front of an event that is of it, or that reads it
abbrev pub ahead_with : PlainEvent → PlainAhead → PlainAhead
ahead_with (plug at tag description) known = turned Moved true
ahead_with (unplug at tag) known = turned Moved true
ahead_with (exchange_begin at tag) known = turned Moved known.replaced
ahead_with (exchange_end at tag ticket description) known = turned Moved known.replaced
ahead_with (exchange_cancel at tag ticket) known = turned Moved known.replaced
ahead_with (report at tag service control) known = record {
  replaced = known.replaced;
  turn = known.turn;
  controls = insert_entry bytes_eq known.controls service control;
  values = known.values;
}
ahead_with (variable at tag name value) known = record {
  replaced = known.replaced;
  turn = known.turn;
  controls = known.controls;
  values = insert_entry bytes_eq known.values name value;
}
ahead_with (desk at tag service command) known = known
ahead_with _ known = turned Read known.replaced

-- what is known of a module is what these entries, the oldest first, do to it
pub record IsAhead (whole : History) (tag : List ℕ) (newer : List PlainEntry) (known : PlainAhead) : Type 0 where
  pub replaced : known.replaced ≡ is_replaced tag newer
  pub control : (service : List ℕ) → mark_ahead (lookup (bytes_eq service) known.controls) known.turn
      ≡ next_of (marks_of whole tag (reported service) newer)
  pub value : (name : List ℕ) → mark_ahead (lookup (bytes_eq name) known.values) known.turn
      ≡ next_of (marks_of whole tag (reported_value name) newer)

-- ---- all modules

-- what is known of a module: nothing lies ahead, where it wasn't met
abbrev pub ahead_of : List (List ℕ × Ahead) → List ℕ → PlainAhead
ahead_of modules tag = option_map_or plain_ahead (lookup (bytes_eq tag) modules) nothing_ahead

-- what is known of each module is what the lasting ones of these entries do to it
abbrev pub AreAhead : History → List PlainEntry → List (List ℕ × Ahead) → Type 0
AreAhead whole newer modules = (tag : List ℕ) → IsAhead whole tag (lasting_in whole newer) (ahead_of modules tag)
