-- Two plants that answer alike.
use Rattle.std.specs.Prelude.{ℕ, ◌≡◌, ◌⊎◌, ◌≤◌, Bool, true, false, List, [], length, filter, is_some, None, not, ◌||◌}
use Rattle.std.specs.Prelude.{map}
use Rattle.mtp_codes.specs.Names.{is_among}
use Rattle.pol_events.specs.Events.{PlainEvent, PlainEntry}
use Rattle.pol_events.specs.declared.answer.Answer.{Answer}
use Rattle.pol_events.specs.declared.answer.Answer.TheVariants.{Refused}
use Rattle.pol_events.specs.declared.answer.Rule.{Rule}
use Rattle.pol_events.specs.declared.answer.Rule.TheVariants.{HistoryFull, BatchesFull}
use Rattle.pol_history.specs.Looking.{History, subject, past, past_of_batch, recipes}
use Rattle.pol_history.specs.Modules.{absent, docking_by, dockings_by, begins_by, description_by, control_by, value_by}
use Rattle.pol_history.specs.Modules.{present_tags}
use Rattle.pol_history.specs.Batches.{start_by, start_of, outcome_by, outcome_of, log_by, is_frozen_by, is_holding_by}
use Rattle.pol_history.specs.Batches.{asked_by, holder_of, watchers_of, is_start, batches as started_batches}
use Rattle.pol_history.specs.Answers.{answer_of}
use Rattle.pol_history.specs.Runs.{run_after}
use Rattle.pol_removal.specs.Removal.{is_of}

-- by both pasts of one tag the same module is there, or none: it is docked or away alike, was docked and taken out as
-- often, and has the same description
pub record StandsSame (whole less : History) : Type 0 where
  pub docking : docking_by less ≡ docking_by whole
  pub dockings : dockings_by less ≡ dockings_by whole
  pub begins : begins_by less ≡ begins_by whole
  pub description : description_by less ≡ description_by whole

-- by both pasts of one tag the same module is there and reported the same, so the pasts look the same to every rule
pub record LooksSame (whole less : History) : Type 0 where
  pub stands : StandsSame whole less
  pub control : (service : List ℕ) → control_by service less ≡ control_by service whole
  pub value : (name : List ℕ) → value_by name less ≡ value_by name whole

-- the tag is absent by both pasts, or both pasts look the same to every rule
abbrev pub IsSameModule : History → History → Type 0
IsSameModule whole less = ((docking_by whole ≡ absent) × (docking_by less ≡ absent)) ⊎ LooksSame whole less

-- the pasts of one batch look the same to every rule
pub record RunsSame (whole less : History) : Type 0 where
  pub start : start_by less ≡ start_by whole
  pub outcome : outcome_by less ≡ outcome_by whole
  pub log : log_by less ≡ log_by whole
  pub frozen : is_frozen_by less ≡ is_frozen_by whole
  pub holding : is_holding_by less ≡ is_holding_by whole
  pub asked : asked_by less ≡ asked_by whole

-- the batches after the whole history and after a shorter one, in which some closed batches are forgotten: the others
-- run the same, hold and watch the same modules, and the recipes are the same
pub record BatchesAlike (gone : List (List ℕ)) (whole less : History) : Type 0 where
  pub batches : (batch : List ℕ) → is_among gone batch ≡ false
      → RunsSame (past_of_batch batch whole) (past_of_batch batch less)
  pub fresh : (batch : List ℕ) → is_among gone batch ≡ false → start_of whole batch ≡ None
      → (past_of_batch batch whole ≡ []) × (past_of_batch batch less ≡ [])
  pub started : (batch : List ℕ) → is_among gone batch ≡ true → is_some (start_of whole batch) ≡ true
  pub closed : (batch : List ℕ) → is_among gone batch ≡ true → is_some (outcome_of whole batch) ≡ true
  pub same_recipes : recipes less ≡ recipes whole
  pub holders : (tag : List ℕ) → holder_of less tag ≡ holder_of whole tag
  pub watchers : (tag : List ℕ) → watchers_of less tag ≡ watchers_of whole tag
  pub fewer_starts : length (filter is_start less) ≤ length (filter is_start whole)
  pub fewer : length less ≤ length whole
  pub listed : started_batches less ≡ filter (λ batch. not (is_among gone batch)) (started_batches whole)

-- the plants after the whole history and after a shorter one, in which some closed batches are forgotten: the batches
-- are alike, and the modules are the same
pub record AnswersAlike (gone : List (List ℕ)) (whole less : History) : Type 0 where
  pub running : BatchesAlike gone whole less
  pub modules : (tag : List ℕ) → IsSameModule (past tag whole) (past tag less)
  pub same_tags : present_tags less ≡ present_tags whole

-- the rule refuses an event because the history, or the list of batches, is full
abbrev pub is_of_fullness : Rule → Bool
is_of_fullness HistoryFull = true
is_of_fullness BatchesFull = true
is_of_fullness _ = false

-- the answer refuses an event because the history, or the list of batches, is full
abbrev pub is_refused_as_full : Answer → Bool
is_refused_as_full (Refused rule) = is_of_fullness rule
is_refused_as_full _ = false

-- Two plants that are alike answer alike each event that names no forgotten batch and isn't refused as full.
abbrev pub AlikeAnswersAlike : Type 0
AlikeAnswersAlike =
    (gone : List (List ℕ)) (whole less : History) → AnswersAlike gone whole less → (event : PlainEvent) →
    is_of [] gone (subject event) ≡ false → is_refused_as_full (answer_of whole event) ≡ false →
    answer_of less event ≡ answer_of whole event

-- an entry of a later event that has no counterpart after the shorter history: it names a forgotten batch, or it is
-- refused as full
abbrev pub is_passed : List (List ℕ) → PlainEntry → Bool
is_passed gone entry = is_of [] gone (subject entry.event) || is_refused_as_full entry.answer

-- the entries of later events that have a counterpart after the shorter history
abbrev pub later_entries : List (List ℕ) → List PlainEntry → List PlainEntry
later_entries gone entries = filter (λ entry. not (is_passed gone entry)) entries

-- Whatever comes later, two plants that are alike answer alike all that names no forgotten batch and isn't refused as
-- full.
abbrev pub LaterAnswersAlike : Type 0
LaterAnswersAlike =
    (gone : List (List ℕ)) (whole less : History) → AnswersAlike gone whole less → (later : List PlainEvent) →
    run_after less (map (λ entry. entry.event) (later_entries gone (run_after whole later)))
    ≡ later_entries gone (run_after whole later)
