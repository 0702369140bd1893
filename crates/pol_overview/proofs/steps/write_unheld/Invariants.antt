-- The tokens so far and those of the steps that are left are all.
use Rattle.std.proofs.Common.{◌≡◌, ◌++◌, drop}
use Rattle.pol_core.specs.Plants.{plant_history}
use Rattle.pol_record.specs.Objects.{data_tokens}
use Rattle.pol_overview.specs.Steps.{unheld_step, unheld_steps}
use Rattle.pol_overview.proofs.Places.{some_tokens}
use Rattle.pol_overview.proofs.steps.write_unheld.Given as goal

abbrev pub invariant-loop-step : goal.invariant-loop-step
invariant-loop-step l = record {
  tokens : l.writer.tokens ++ some_tokens (unheld_step (plant_history l.plant)) (drop l.step-index l.steps)
      ≡ l.fn.writer.tokens ++ data_tokens (unheld_steps (plant_history l.plant) l.steps);
  before : l.writer.before ≡ l.fn.writer.before;
}
