-- What the tables of a plant keep of its history.
use Rattle.std.specs.Prelude.{ℕ, ◌≡◌, ◌∷◌, List, length, filter}
use Rattle.std.specs.Map.{keys_of}
use Rattle.std.specs.declared.sync.Arc.{Arc}
use Rattle.chart_core.specs.declared.chart.Chart.{Chart}
use Rattle.pol_events.specs.Events.{PlainEvent}
use Rattle.pol_events.specs.declared.answer.Answer.{Answer}
use Rattle.pol_history.specs.Answers.{answer_of}
use Rattle.pol_history.specs.Batches.{batches as started_batches, is_start}
use Rattle.pol_history.specs.Looking.{History}
use Rattle.pol_history.specs.Runs.{entry_of}
use Rattle.pol_slots.specs.declared.slot.Slot.{Slot}
use Rattle.pol_table.specs.Rows.{Rows}
use Rattle.pol_runs.specs.Runs.{PlainRun}
use Rattle.pol_core.specs.Batches.{RunsMirror}
use Rattle.pol_core.specs.Recipes.{RecipesMirror}
use Rattle.pol_core.specs.Seats.{SeatsMirror, IsCounted}

-- the tables have of each tag, batch and recipe what looking back gives, as many modules as are there, and the runs in
-- the order of their starts
pub record Mirrors {Z : Type 0} (rows : Rows Slot) (runs : List (List ℕ × PlainRun))
    (known : List (List ℕ × Arc Chart Z)) (history : History) : Type 0 where
  pub seats : SeatsMirror rows history
  pub batches : RunsMirror runs history
  pub counted : IsCounted rows history
  pub recipes : RecipesMirror known history
  pub starts : length runs ≡ length (filter is_start history)
  pub order : keys_of runs ≡ started_batches history

-- the answer is the defined one, and the tables keep the history with it
pub record Answers {Z : Type 0} (history : History) (event : PlainEvent) (answer : Answer) (rows : Rows Slot)
    (runs : List (List ℕ × PlainRun))
    (known : List (List ℕ × Arc Chart Z)) : Type 0 where
  pub answer_is : answer ≡ answer_of history event
  pub mirrors : Mirrors rows runs known (entry_of history event ∷ history)
