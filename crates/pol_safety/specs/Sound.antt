-- All that holds of a legal history of orderly events, and of each entry after it.
use Rattle.std.specs.Prelude.{ℕ, ◌≡◌, List, ◌∷◌, true, false, Some}
use Rattle.std.specs.List.{Contains}
use Rattle.mtp_desc.specs.Plain.{PlainDescription}
use Rattle.mtp_machine.specs.Machine.{IsPath}
use Rattle.chart_core.specs.Roles.{PlainChart}
use Rattle.chart_cursor.specs.Commands.{Sent}
use Rattle.pol_events.specs.Events.{PlainEntry, advance}
use Rattle.pol_history.specs.Looking.{History, is_accepted}
use Rattle.pol_history.specs.Modules.{docking_of, description_of, reported_states}
use Rattle.pol_history.specs.Batches.{Started, start_of, holder_of, watchers_of}
use Rattle.pol_history.specs.Commands.{sent_command}
use Rattle.pol_history.specs.Refused.{ChangesNothing}
use Rattle.pol_history.specs.Answers.{answer_of}
use Rattle.pol_history.specs.Runs.{IsLegal, IsOrderly}
use Rattle.pol_safety.specs.Advances.{IsAdvanced}
use Rattle.pol_safety.specs.Charts.{FollowsChart}
use Rattle.pol_safety.specs.Kept.{IsOpen, IsSteady, IsHolder, IsWatcher}
use Rattle.pol_safety.specs.Known.{HasChart, CountsTags, SeesModules, is_there}
use Rattle.pol_safety.specs.Permitted.{WasPermitted}

-- what holds of a history
pub record IsSound (history : History) : Type 0 where
  pub legal : IsLegal history
  pub orderly : IsOrderly history
  -- the states that a service reported after its module's last docking are a path of the state machine
  pub paths : (tag service : List ℕ) → IsPath (reported_states history tag service)
  -- a started batch has a valid chart, and its log follows it
  pub charts : (batch : List ℕ) (started : Started) → start_of history batch ≡ Some started →
      (found : HasChart history batch) × FollowsChart history batch found.chart
  -- what is kept of each open batch, what it sees of its modules, and which batch holds a module and which
  -- ones watch it
  pub batches : (batch : List ℕ) (started : Started) (chart : PlainChart) → IsOpen history batch started chart →
      IsSteady history batch started chart
  pub sights : (batch : List ℕ) (started : Started) (chart : PlainChart) → IsOpen history batch started chart →
      SeesModules history batch started chart
  pub holders : (tag batch : List ℕ) → holder_of history tag ≡ Some batch → IsHolder history tag batch
  pub watchers : (tag batch : List ℕ) → Contains (watchers_of history tag) batch → IsWatcher history tag batch
  -- the tags that are counted are those that are there, and each of them has a description
  pub tags : CountsTags history
  pub descriptions : (tag : List ℕ) → is_there (docking_of history tag) ≡ true →
      (description : PlainDescription) × (description_of history tag ≡ Some description)

-- what holds of an entry after the history before it
pub record IsRight (history : History) (entry : PlainEntry) : Type 0 where
  pub answered : entry.answer ≡ answer_of history entry.event
  -- a command that the answer sends was permitted
  pub permitted : (sent : Sent) → sent_command entry.answer ≡ Some sent → WasPermitted history sent
  -- an accepted advance is answered as the runs of the chart say
  pub advances : (at : ℕ) (batch : List ℕ) → entry.event ≡ advance at batch → is_accepted entry.answer ≡ true →
      IsAdvanced history batch entry.answer
  -- a refused event changes nothing
  pub refused : is_accepted entry.answer ≡ false → ChangesNothing entry history

-- Every legal history of orderly events is sound.
abbrev pub HistoriesAreSound : Type 0
HistoriesAreSound = (history : History) → IsLegal history → IsOrderly history → IsSound history

-- Each entry of a legal history of orderly events is right.
abbrev pub EntriesAreRight : Type 0
EntriesAreRight = (history : History) (entry : PlainEntry) → IsLegal (entry ∷ history) → IsOrderly history →
    IsRight history entry
