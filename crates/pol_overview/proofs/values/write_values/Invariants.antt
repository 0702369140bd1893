-- The tokens so far and those of the variables that are left are all.
use Rattle.std.proofs.Common.{◌≡◌, ◌++◌, drop, map}
use Rattle.mtp_assembly.specs.Plain.{plain_variable}
use Rattle.pol_core.specs.Plants.{plant_history}
use Rattle.pol_record.specs.Objects.{data_tokens}
use Rattle.pol_overview.specs.Lists.{each_data}
use Rattle.pol_overview.specs.Modules.{variable_data}
use Rattle.pol_overview.proofs.Places.{rest_tokens}
use Rattle.pol_overview.proofs.values.write_values.Given as goal

abbrev pub invariant-loop-variable : goal.invariant-loop-variable
invariant-loop-variable l = record {
  tokens : l.writer.tokens
      ++ rest_tokens (variable_data (plant_history l.plant) l.tag) (map plain_variable (drop l.variable-index l.variables))
      ≡ l.fn.writer.tokens
      ++ data_tokens (each_data (variable_data (plant_history l.plant) l.tag) (map plain_variable l.variables));
  before : l.writer.before ≡ l.fn.writer.before;
}
