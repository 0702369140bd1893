-- A batch is told alike by two plants that are alike, unless the old one is full.
use Rattle.std.proofs.Common.{◌≡◌, ℕ, false, List, [], Option, None, Some, refl, ap, sym, ◌∙◌, inl, inr}
use Rattle.std.specs.Prelude.{filter_map, option_and_then, unwrap_or, Bool}
use Rattle.std.specs.Option.{option_map}
use Rattle.std.proofs.Math.Path.{fun_ext}
use Rattle.serde_json.specs.Data.{array}
use Rattle.serde_json.specs.View.{items_of}
use Rattle.mtp_codes.specs.Names.{is_among}
use Rattle.chart_core.specs.declared.next.Outcome.{Outcome}
use Rattle.pol_events.specs.Bound.{given}
use Rattle.pol_events.specs.Events.{PlainEvent, advance}
use Rattle.pol_history.specs.Answers.{answer_of, advanced, first_rule, is_full, otherwise, rules}
use Rattle.pol_history.specs.Batches.{Started, chart_by, log_by, start_of}
use Rattle.pol_history.specs.Looking.{History, past, past_of_batch, recipes}
use Rattle.pol_history.specs.Modules.{docking_of, view_of}
use Rattle.pol_history.proofs.Accepted.{with_room}
use Rattle.pol_runs.specs.Waits.{waits_by}
use Rattle.pol_core.specs.Calls.{module_sight, standing_of}
use Rattle.pol_core.specs.Steps.{active_of, active_of_started, waits_of, waits_of_started}
use Rattle.pol_core.specs.declared.standing.Standing.{Standing}
use Rattle.pol_core.specs.declared.steps.ActiveStep.{ActiveStep}
use Rattle.pol_compaction.specs.Alike.{AnswersAlike, IsSameModule, RunsSame}
use Rattle.pol_compaction.proofs.Sights.{next_same, same_view, sights_same}
use Rattle.pol_record.specs.Texts.{answer_data}
use Rattle.pol_overview.specs.Batches.{batch_data, course_data, open_data, standing_data}
use Rattle.pol_overview.specs.Lists.{each_data}
use Rattle.pol_overview.specs.Steps.{active_data, held_steps, step_sight, unheld_step, unheld_steps, waiting_data}
use Rattle.pol_renewed.proofs.Commanded.{less_room}

module _ (gone : List (List ℕ)) (whole less : History) (alike : AnswersAlike gone whole less) where
  -- a service of a module is seen alike
  sight_same : (tag service : List ℕ) → module_sight (docking_of less tag) (view_of less tag service)
      ≡ module_sight (docking_of whole tag) (view_of whole tag service)
  sight_same tag service = go (alike.modules tag)
    where
      go : IsSameModule (past tag whole) (past tag less) →
          module_sight (docking_of less tag) (view_of less tag service)
          ≡ module_sight (docking_of whole tag) (view_of whole tag service)
      go (inl away) = rw (away.0, away.1) refl
      go (inr same) = rw (same.stands.docking, same_view (past tag whole) (past tag less) same service) refl

  -- so is that of a step
  step_same : (step : ActiveStep) → step_sight less step ≡ step_sight whole step
  step_same step = sight_same step.tag step.service

  module _ (batch : List ℕ) (out : is_among gone batch ≡ false) where
    same : RunsSame (past_of_batch batch whole) (past_of_batch batch less)
    same = alike.running.batches batch out

    -- it stands alike
    pub standing_same : standing_of less batch ≡ standing_of whole batch
    standing_same = rw (same.start, same.outcome, same.holding, same.frozen, same.log) refl

    -- the same steps are active
    pub active_same : active_of less batch ≡ active_of whole batch
    active_same =
        ap (λ started. unwrap_or (option_and_then (active_of_started (recipes less) (past_of_batch batch less)) started)
        []) same.start
        ∙ ap (λ active. unwrap_or active []) (go (start_of whole batch))
      where
        go : (started : Option Started) →
            option_and_then (active_of_started (recipes less) (past_of_batch batch less)) started
            ≡ option_and_then (active_of_started (recipes whole) (past_of_batch batch whole)) started
        go None = refl
        go (Some started) = rw (same.log, alike.running.same_recipes) refl

    -- and its nodes wait for the same
    pub waits_same : waits_of less batch ≡ waits_of whole batch
    waits_same =
        ap (λ started. unwrap_or (option_and_then (waits_of_started (recipes less) (past_of_batch batch less)
        (λ tag. past tag less)) started) []) same.start
        ∙ ap (λ waits. unwrap_or waits []) (go (start_of whole batch))
      where
        go : (started : Option Started) →
            option_and_then (waits_of_started (recipes less) (past_of_batch batch less) (λ tag. past tag less)) started
            ≡ option_and_then (waits_of_started (recipes whole) (past_of_batch batch whole) (λ tag. past tag whole))
            started
        go None = refl
        go (Some started) = rw (same.log, alike.running.same_recipes)
            (ap (λ seen. option_map (λ chart. waits_by chart (log_by (past_of_batch batch whole)) seen)
            (chart_by (recipes whole) (Some started)))
            (sights_same whole less (given started.binds) (λ tag inside. alike.modules tag)))

    module _ (room : is_full whole ≡ false) where
      -- an advance of it has the same answer
      advance_same : answer_of less (advance 0 batch) ≡ answer_of whole (advance 0 batch)
      advance_same =
          with_room less event (less_room gone whole less alike room)
          ∙ ap (λ rules. first_rule rules (otherwise less event)) rules_same
          ∙ ap (first_rule (rules whole event)) (ap advanced
          (next_same gone whole less alike.running batch out (λ started is tag inside. alike.modules tag)))
          ∙ sym (with_room whole event room)
        where
          event : PlainEvent
          event = advance 0 batch

          rules_same : rules less event ≡ rules whole event
          rules_same = rw (same.start, same.outcome) refl

      -- it is told alike while it is open
      open_same : (started : Started) (hold : Option Bool) (stopping : Bool) →
          open_data less batch started hold stopping ≡ open_data whole batch started hold stopping
      open_same started hold stopping = rw (
        ap (λ told. each_data told (active_of less batch)) (fun_ext active_told)
            ∙ ap (each_data (active_data whole)) active_same,
        ap answer_data advance_same,
        ap (λ told. array (items_of (filter_map told (held_steps hold (active_of less batch))))) (fun_ext unheld_told)
            ∙ ap (λ steps. unheld_steps whole (held_steps hold steps)) active_same,
        ap (each_data waiting_data) waits_same,
      ) refl
        where
          active_told : (step : ActiveStep) → active_data less step ≡ active_data whole step
          active_told step = rw (step_same step) refl

          unheld_told : (step : ActiveStep) → unheld_step less step ≡ unheld_step whole step
          unheld_told step = rw (step_same step) refl

      -- so it is told alike
      pub batch_same : batch_data less batch ≡ batch_data whole batch
      batch_same =
          ap (λ started. standing_data less batch started (standing_of less batch)) same.start
          ∙ ap (standing_data less batch (start_of whole batch)) standing_same
          ∙ go (start_of whole batch) (standing_of whole batch)
        where
          course_same : (started : Started) (outcome : Option Outcome) (hold : Option Bool) (stopping : Bool) →
              course_data less batch started outcome hold stopping
              ≡ course_data whole batch started outcome hold stopping
          course_same started None hold stopping = open_same started hold stopping
          course_same started (Some outcome) hold stopping = refl

          go : (started : Option Started) (standing : Option Standing) →
              standing_data less batch started standing ≡ standing_data whole batch started standing
          go None standing = refl
          go (Some started) None = refl
          go (Some started) (Some standing) =
              course_same started standing.outcome standing.hold standing.is_stopping
