-- What contracts see of a ledger.
use Rattle.std.specs.Prelude.{◌≡◌, ℕ, List, [], ◌∷◌, length, Option, Some, None, IfNone}
use Rattle.pol_core.specs.Plants.{PlainPlant, plant_history}
use Rattle.pol_events.specs.Events.{PlainEvent}
use Rattle.pol_history.specs.Runs.{events_of}
use Rattle.pol_ledger.specs.Items.{PlainAsked, sum_of}
use Rattle.pol_ledger.specs.Sums.{bytes_before}
use Rattle.pol_ledger.specs.Work.{BegunLedger, history_of, items_of}

-- a ledger: its plant, who asked for each of the plant's events, the oldest first, and what names the build that began
-- it, if it was begun
pub record PlainLedger : Type 0 where
  pub plant : PlainPlant
  pub names : List (Option (List ℕ))
  pub build : Option (List ℕ)

-- events with who asked for them, in order
abbrev pub all_asked : List (Option (List ℕ)) → List PlainEvent → List PlainAsked
all_asked [] events = []
all_asked (name ∷ names) [] = []
all_asked (name ∷ names) (event ∷ events) = record { event = event; by = name } ∷ all_asked names events

-- what was asked for so far: the plant's events
abbrev pub asked_so_far : PlainLedger → List PlainAsked
asked_so_far ledger = all_asked ledger.names (events_of (plant_history ledger.plant))

-- what was begun by a build, if one began it
abbrev pub begun_by : Option (List ℕ) → List PlainAsked → Option BegunLedger
begun_by None so_far = None
begun_by (Some build) so_far = Some (record { build = build; so_far = so_far })

-- what a ledger knows
abbrev pub ledger_state : PlainLedger → Option BegunLedger
ledger_state ledger = begun_by ledger.build (asked_so_far ledger)

-- How a ledger is kept: there is a name, or none, for each entry of the plant; its history is that of the events; the
-- sum is that of its items; and before it was begun nothing was asked for.
pub record IsLedger (ledger : PlainLedger) (sum : Option (List ℕ)) : Type 0 where
  pub many : length ledger.names ≡ length ledger.plant.entries
  pub runs : plant_history ledger.plant ≡ history_of (asked_so_far ledger)
  pub sealed : bytes_before sum ≡ sum_of (items_of (ledger_state ledger))
  pub idle : IfNone ledger.build (ledger.names ≡ [])

-- nothing happened between two states of a ledger; there may be more room
pub record IsSameLedger (old new : PlainLedger) : Type 0 where
  pub entries : new.plant.entries ≡ old.plant.entries
  pub names : new.names ≡ old.names
  pub build : new.build ≡ old.build
