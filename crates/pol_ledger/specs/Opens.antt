-- What opening a ledger finds, and what it leaves.
use Rattle.std.specs.Prelude.{◌≡◌, ◌⊎◌, ℕ, List, [], Option, Some, None}
use Rattle.pol_kept.specs.Opens as of_items
use Rattle.pol_kept.specs.Stands.{StandsFor}
use Rattle.pol_kept.specs.declared.opening.OpenFault.{OpenFault}
use Rattle.pol_kept.specs.declared.opening.OpenFault.TheVariants.{Memory, Disk, NotAStore}
use Rattle.pol_ledger.specs.Builds.{this_build}
use Rattle.pol_ledger.specs.Items.{PlainItem, header}
use Rattle.pol_ledger.specs.Work.{BegunLedger, items_of, ledger_work}

-- the header of this build
abbrev pub this_header : PlainItem
this_header = header this_build

-- what opening makes of the ledger on the disk: the same, or where none was begun one that this build began
abbrev pub begun_anyway : Option BegunLedger → Option BegunLedger
begun_anyway None = Some (record { build = this_build; so_far = [] })
begun_anyway (Some ledger) = Some ledger

-- the image stood for a ledger, or for none, and opening made this one of it
pub record OpensAs (image : List ℕ) (opened : Option BegunLedger) : Type 0 where
  pub found : Option BegunLedger
  pub stood : StandsFor ledger_work (items_of found) image
  pub is : opened ≡ begun_anyway found

-- the image stands for the items of the ledger, or for those of the one that opening makes of it
abbrev pub StandsOrBegins : Option BegunLedger → List ℕ → Type 0
StandsOrBegins found image =
    StandsFor ledger_work (items_of found) image ⊎ StandsFor ledger_work (items_of (begun_anyway found)) image

-- the bytes stood for a ledger, or for none, for which the image stands too, or for the one that opening makes of it
pub record IsOfFound (all image : List ℕ) : Type 0 where
  pub found : Option BegunLedger
  pub stood : StandsFor ledger_work (items_of found) all
  pub stands : StandsOrBegins found image

-- what opening a disk leaves that reads as these bytes: an image that a crash might have left before; one that stands
-- for no item, where there is at most one byte; or one that stands for what the bytes stand for, or for what opening
-- makes of it
abbrev pub MayBeLeft : List ℕ → (List ℕ → Type 0) → List ℕ → Type 0
MayBeLeft all images image = of_items.IsLeftOf ledger_work all images image ⊎ IsOfFound all image

-- what a fault says: of NotAStore, that no call of the disk failed, and where the disk gives its bytes still, that no
-- items stand for them, and that the first record that doesn't follow is at this place
abbrev pub Tells : OpenFault → Option (List ℕ) → Option (List ℕ) → ℕ → ℕ → Type 0
Tells Memory seen seen' faults faults' = Unit {0}
Tells Disk seen seen' faults faults' = Unit {0}
Tells (NotAStore place) seen seen' faults faults' =
    of_items.Tells ledger_work (NotAStore place) seen seen' faults faults'
