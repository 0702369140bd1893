-- Why a call refuses a tag, by what is found under it: a row or a seat, with its holder.
use Rattle.std.specs.Prelude.{ℕ, Bool, List, Option, None, Some, Result, Ok, Err, nat_le, if◌then◌else◌}
use Rattle.std.specs.Option.{option_map, option_eq}
use Rattle.std.specs.Str.{bytes_eq}
use Rattle.mtp_codes.specs.declared.limits.TheConstants.{MOST_MODULES}
use Rattle.pol_table.specs.declared.faults.DockFault.{DockFault}
use Rattle.pol_table.specs.declared.faults.DockFault.TheVariants.{TagTaken, PlantFull}
use Rattle.pol_table.specs.declared.faults.LeaveFault.{LeaveFault}
use Rattle.pol_table.specs.declared.faults.LeaveFault.TheVariants.{Held}
use Rattle.pol_table.specs.declared.faults.HoldFault.{HoldFault}
use Rattle.pol_table.specs.declared.faults.HoldFault.TheVariants.{Busy, NoModule as Missing}

-- why nothing may dock under a tag that is taken or not, beside so many: it is taken, or it is new and 64 are there
abbrev pub dock_reason : Bool → ℕ → Option DockFault
dock_reason taken count = if taken then Some TagTaken else if nat_le MOST_MODULES count then Some PlantFull else None

-- a part or a seat that is found may leave where no batch holds it
abbrev pub parting : {A : Type 0} → A → Option (List ℕ) → Result A LeaveFault
parting found None = Ok found
parting found (Some batch) = Err (Held batch)

-- why a tag may not be held together with others: nothing is there
abbrev pub missing_reason : List ℕ → Bool → Option HoldFault
missing_reason tag there = if there then None else Some (Missing tag)

-- why a tag may not be held: a batch holds it
abbrev pub busy_reason : List ℕ → Option (List ℕ) → Option HoldFault
busy_reason tag holder = option_map (Busy tag) holder

-- the holder of a tag after this batch lets it go
abbrev pub let_go : List ℕ → Option (List ℕ) → Option (List ℕ)
let_go batch holder = if option_eq bytes_eq holder (Some batch) then None else holder
