-- What the history of a plant keeps.
use Rattle.std.specs.Prelude.{◌≤◌, length}
use Rattle.mtp_codes.specs.declared.limits.TheConstants.{LONGEST_HISTORY}
use Rattle.pol_history.specs.Looking.{History}
use Rattle.pol_history.specs.Runs.{IsLegal, IsOrderly}

-- each answer is the one that the entries before it give, each event is as a line says it, and there are at most
-- 200,000
pub record IsPlantHistory (history : History) : Type 0 where
  pub legal : IsLegal history
  pub orderly : IsOrderly history
  pub few : length history ≤ LONGEST_HISTORY
