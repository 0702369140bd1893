-- How a run is frozen.
use Rattle.std.specs.Prelude.{ℕ, Bool, true, false, List}
use Rattle.chart_cursor.specs.Freezing.{Freezing, thawed, waiting, holding}
use Rattle.pol_runs.specs.declared.freeze.Freeze.{Freeze}
use Rattle.pol_runs.specs.declared.freeze.Freeze.TheVariants.{Thawed, Waiting, Holding}

-- the run is frozen
abbrev pub is_frozen : Freeze → Bool
is_frozen Thawed = false
is_frozen Waiting = true
is_frozen Holding = true

-- the run is frozen and its services are held
abbrev pub is_holding : Freeze → Bool
is_holding Thawed = false
is_holding Waiting = false
is_holding Holding = true

-- a freeze that holds the services or doesn't
abbrev pub frozen_as : Bool → Freeze
frozen_as true = Holding
frozen_as false = Waiting

-- a freeze with the steps that were asked to hold since
abbrev pub freezing : Freeze → List (List ℕ) → Freezing
freezing Thawed asked = thawed
freezing Waiting asked = waiting
freezing Holding asked = holding asked
