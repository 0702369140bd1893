-- What opening finds.
use Rattle.std.specs.Prelude.{ℕ, List, Option}
use Rattle.pol_kept.specs.Opens as of_items
use Rattle.pol_kept.specs.declared.opening.OpenFault.{OpenFault}
use Rattle.pol_store.specs.Work.{plant_work}

-- the disk is no store: it reads as more than one byte, no list of at most 200,000 events stands for these bytes, and
-- the first record that isn't one is at this place
abbrev pub IsNoStore : List ℕ → ℕ → Type 0
IsNoStore image place = of_items.IsNoStore plant_work image place

-- what a fault says, where the disk gives its bytes still: of NotAStore, that no call of the disk failed; of Memory,
-- that reads give what they gave
abbrev pub Tells : OpenFault → Option (List ℕ) → Option (List ℕ) → ℕ → ℕ → Type 0
Tells fault seen seen' faults faults' = of_items.Tells plant_work fault seen seen' faults faults'

-- what opening a disk leaves that reads as these bytes: an image that a crash might have left before; or one that
-- stands for no event, where a crash might have left these bytes, and there is at most one of them
abbrev pub IsLeftOf : List ℕ → (List ℕ → Type 0) → List ℕ → Type 0
IsLeftOf all images image = of_items.IsLeftOf plant_work all images image
