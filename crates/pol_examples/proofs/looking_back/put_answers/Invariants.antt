use Rattle.pol_events.specs.Events.{plain_history}
use Rattle.pol_history.specs.Runs.{IsOrderly}
use Rattle.pol_examples.proofs.looking_back.put_answers.Given as goal

abbrev pub invariant-loop-line : goal.invariant-loop-line
invariant-loop-line l = IsOrderly (plain_history l.history.items)
