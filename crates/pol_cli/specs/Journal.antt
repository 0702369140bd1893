-- What holds of the history that an input leaves: the journal theorem.
use Rattle.std.specs.Prelude.{ℕ, ◌≡◌, ◌<◌, List, ◌∷◌, ◌++◌, length}
use Rattle.pol_events.specs.Events.{PlainEntry}
use Rattle.pol_history.specs.Looking.{History}
use Rattle.pol_record.specs.Lines.{answers_of, history_of, output_of}
use Rattle.pol_history.specs.Paths.{ReportsArePaths}
use Rattle.pol_history.specs.Runs.{RunsAreLegal}
use Rattle.pol_safety.specs.Charts.{LogsFollowCharts}
use Rattle.pol_safety.specs.Permitted.{CommandsArePermitted}
use Rattle.pol_safety.specs.Sound.{EntriesAreRight, HistoriesAreSound, IsRight, IsSound}
use Rattle.pol_removal.specs.Removal.{RemovalOfEvents, without, output_without}

-- while the input was answered, the history was this at some time
abbrev pub Was : List ℕ → History → Type 0
Was bytes history = (later : History) × (later ++ history ≡ history_of bytes)

-- The journal theorem of an input: at each time while it was answered the history was sound, each entry of it is right,
-- taking out the lines of some modules takes out just their output lines, and the output goes on behind the answers.
pub record JournalTheorem (bytes : List ℕ) : Type 0 where
  pub sound : (history : History) → Was bytes history → IsSound history
  pub right : (history : History) (entry : PlainEntry) → Was bytes (entry ∷ history) → IsRight history entry
  pub removal : (tags : List (List ℕ)) → output_of (without tags bytes) ≡ output_without tags bytes
  pub longer : length (answers_of bytes) < length (output_of bytes)

-- What holds of every legal history, whether an input leaves it or a kept plant has it; the theorem rests on it:
-- whatever events come leave a legal one.
pub record Laws : Type 0 where
  pub runs : RunsAreLegal
  pub histories : HistoriesAreSound
  pub entries : EntriesAreRight
  pub permitted : CommandsArePermitted
  pub paths : ReportsArePaths
  pub charts : LogsFollowCharts
  pub removal : RemovalOfEvents
