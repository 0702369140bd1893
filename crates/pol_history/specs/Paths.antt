-- The reported states of a service are a path of the state machine.
use Rattle.std.specs.Prelude.{ℕ, List}
use Rattle.mtp_machine.specs.Machine.{IsPath}
use Rattle.pol_history.specs.Looking.{History}
use Rattle.pol_history.specs.Modules.{reported_states}
use Rattle.pol_history.specs.Runs.{IsLegal}

-- In every legal history the states that a service reported after its module's last docking are a path.
abbrev pub ReportsArePaths : Type 0
ReportsArePaths = (history : History) → IsLegal history → (tag service : List ℕ)
    → IsPath (reported_states history tag service)
