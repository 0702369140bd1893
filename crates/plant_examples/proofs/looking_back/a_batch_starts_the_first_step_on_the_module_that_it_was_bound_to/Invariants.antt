-- The history that was read so far is orderly.
use Rattle.pol_events.specs.Events.{plain_history}
use Rattle.pol_history.specs.Runs.{IsOrderly}
use Rattle.plant_examples.proofs.looking_back.a_batch_starts_the_first_step_on_the_module_that_it_was_bound_to.Given as goal

abbrev pub invariant-loop-line : goal.invariant-loop-line
invariant-loop-line g l = IsOrderly (plain_history l.history.items)
