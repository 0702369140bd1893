-- A plant and a disk that keeps its events.
use Rattle.std.specs.Prelude.{◌≡◌, ℕ, List, [], ◌∷◌, ◌++◌, Bool, false, Option, Some}
use Rattle.pol_disk.specs.Disks.{LeavesOnly}
use Rattle.pol_events.specs.Events.{PlainEvent}
use Rattle.pol_core.specs.Plants.{PlainPlant, plant_history}
use Rattle.pol_history.specs.Runs.{events_of}
use Rattle.pol_kept.specs.Keeping.{AreParts}
use Rattle.pol_store.specs.Stands.{StandsFor, StandsWithAllOrNone}

-- what contracts see of a store: its plant, its disk, whether a call of the disk failed, and how many of the plant's
-- events wait to be kept: the last ones
pub record StoreState (D : Type 0) : Type 0 where
  pub plant : PlainPlant
  pub disk : D
  pub closed : Bool
  pub waiting : ℕ

-- the events of a store are those that are kept, and behind them the group of those that wait
abbrev pub HasParts : {D : Type 0} → StoreState D → List PlainEvent → List PlainEvent → Type 0
HasParts store kept group = AreParts (events_of (plant_history store.plant)) store.waiting kept group

-- a crash at any moment of a call leaves the events that the store keeps, or these and all that wait
abbrev pub LeavesGroup : {D : Type 0} → (D → Option (List ℕ)) → (D → ℕ) → (D → ℕ → List ℕ → Type 0) → StoreState D →
    D → Type 0
LeavesGroup bytes moment left_since old new =
    old.closed ≡ false → (all : List ℕ) → bytes old.disk ≡ Some all
    → (kept group : List PlainEvent) → HasParts old kept group
    → LeavesOnly moment left_since old.disk new (StandsWithAllOrNone kept group)

-- a crash at any moment of a call leaves the events of the store, or these and one more
abbrev pub LeavesEvents : {D : Type 0} → (D → Option (List ℕ)) → (D → ℕ) → (D → ℕ → List ℕ → Type 0) → StoreState D →
    D → PlainEvent → Type 0
LeavesEvents bytes moment left_since old new event =
    old.closed ≡ false → (all : List ℕ) → bytes old.disk ≡ Some all
    → LeavesOnly moment left_since old.disk new
    (StandsWithAllOrNone (events_of (plant_history old.plant)) (event ∷ []))

-- a crash from now on leaves the events of the store and one more
abbrev pub KeepsMore : {D : Type 0} → (D → Option (List ℕ)) → (D → List ℕ → Type 0) → StoreState D → D → PlainEvent →
    Type 0
KeepsMore bytes images old new event =
    (all : List ℕ) → bytes old.disk ≡ Some all
    → (image : List ℕ) → images new image → StandsFor (events_of (plant_history old.plant) ++ event ∷ []) image

-- a crash from now on leaves all events of the store's plant
abbrev pub KeepsAll : {D : Type 0} → (D → Option (List ℕ)) → (D → List ℕ → Type 0) → StoreState D → D → Type 0
KeepsAll bytes images old new =
    (all : List ℕ) → bytes old.disk ≡ Some all
    → (image : List ℕ) → images new image → StandsFor (events_of (plant_history old.plant)) image
