-- An event that stays is answered alike after two histories that are alike.
use Rattle.std.proofs.Common.{◌≡◌, ℕ, false, List, ◌∷◌, length, refl, ap, ◌∙◌, Option, Some, None, option_map}
use Rattle.std.proofs.Common.{option_and_then, inl, inr, map}
use Rattle.std.specs.Prelude.{nat_le, filter}
use Rattle.std.proofs.Math.Path.{fun_ext}
use Rattle.mtp_codes.specs.Faults.{when, first_of}
use Rattle.mtp_codes.specs.Names.{is_among}
use Rattle.mtp_codes.specs.declared.limits.TheConstants.{LONGEST_HISTORY, MOST_BATCHES, MOST_MODULES}
use Rattle.mtp_desc.specs.Plain.{PlainDescription}
use Rattle.chart_core.specs.Roles.{PlainChart, role_names}
use Rattle.chart_cursor.specs.Sights.{Sights}
use Rattle.chart_cursor.specs.declared.sight.Sight.{Sight}
use Rattle.chart_cursor.specs.declared.sight.ReadingSight.{ReadingSight}
use Rattle.mtp_procs.specs.Covers.{cover_fault}
use Rattle.chart_cursor.specs.Logs.{active}
use Rattle.chart_cursor.specs.NextEntry.{next_by}
use Rattle.pol_events.specs.Events.{PlainEvent, plug, unplug, report, variable, recipe, start, advance, freeze, thaw}
use Rattle.pol_events.specs.Events.{stop_batch, abandon, desk, exchange_begin, exchange_end, exchange_cancel}
use Rattle.pol_events.specs.declared.event.Bind.{Bind}
use Rattle.pol_events.specs.declared.answer.Rule.TheVariants.{PlantFull, Held, Watched, BatchesFull, HistoryFull}
use Rattle.pol_events.specs.declared.answer.Rule.{Rule}
use Rattle.pol_events.specs.declared.answer.Answer.TheVariants.{Ticket}
use Rattle.pol_events.specs.Bound.{PlainAllocation, bound_tag, bound_role, given, tags_of, step_on}
use Rattle.pol_history.specs.Looking.{History, subject, past, past_of_batch, recipes}
use Rattle.pol_history.specs.Modules.{next_ticket, present_tags}
use Rattle.pol_history.specs.Batches.{Started, start_by, start_of, chart_named, chart_by, freezing_by, log_by}
use Rattle.pol_history.specs.Batches.{holder_of, is_start, watchers_of}
use Rattle.pol_history.specs.Following.{service_sight, variable_sight, sights_by, next_of_started, next_of}
use Rattle.pol_history.specs.Rules.{plant_full, batches_full, module_rules, module_rule, modules_unfit, busy_role, busy}
use Rattle.pol_history.specs.Rules.{active_step_on, active_step, uncovered_by, uncovered_in, held_back, watched}
use Rattle.pol_history.specs.Answers.{start_rules, rules, advanced, stopped, otherwise, is_full, answer_of}
use Rattle.pol_removal.specs.Removal.{is_refused_for_another, is_some_among, binds_one, is_of}
use Rattle.pol_removal.proofs.Alike.{Alike}
use Rattle.pol_removal.proofs.Roles.{played_outside}
use Rattle.pol_removal.proofs.Falling.{Falls, AllFall, IsForAnother, first_falls, all_same, when_falls, fewer_reach}
use Rattle.pol_removal.proofs.Falling.{first_of_falls, or_falls, map_another, then_another, holder_falls, watchers_fall}

-- the rules of an active step and of an uncovered role are for another's sake
active_another : (recipes : History) (tag batch : List ℕ) (past : History)
    → IsForAnother (active_step_on recipes tag batch past)
active_another recipes tag batch past =
    then_another _ (λ started. then_another _ (λ chart. map_another _ (λ step. refl)
    (step_on (given started.binds) tag (active chart (log_by past))))
    (chart_by recipes (Some started))) (start_by past)

-- and so is the one of a role that the module doesn't cover
back_another : (recipes : History) (tag : List ℕ) (description : PlainDescription) (batch : List ℕ) (past : History)
    → IsForAnother (uncovered_by recipes tag description batch past)
back_another recipes tag description batch past =
    then_another _ (λ started. then_another _ (λ chart. then_another _
    (λ role. map_another _ (λ fault. refl) (cover_fault chart role description))
    (bound_role (given started.binds) tag)) (chart_by recipes (Some started))) (start_by past)

module _ (tags bound : List (List ℕ)) (whole less : History) (alike : Alike tags bound whole less) where
  -- ---- rules for another's sake

  -- a module that is held
  held_falls : (tag : List ℕ)
      → Falls (option_and_then (λ batch. Some (Held batch)) (holder_of whole tag))
      (option_and_then (λ batch. Some (Held batch)) (holder_of less tag))
  held_falls tag = holder_falls bound whole less tag _ _ (λ batch. inl refl) (λ batch out. refl) (alike.holders tag)

  -- a rule of the watchers, where it agrees on those that aren't taken out
  watching_falls : (tag : List ℕ) (whole_rule less_rule : List ℕ → Option Rule) →
      ((batch : List ℕ) → IsForAnother (whole_rule batch)) →
      ((batch : List ℕ) → is_among bound batch ≡ false → less_rule batch ≡ whole_rule batch) →
      Falls (first_of (map whole_rule (watchers_of whole tag))) (first_of (map less_rule (watchers_of less tag)))
  watching_falls tag whole_rule less_rule another agree =
      rw (alike.watchers tag) (watchers_fall bound whole_rule less_rule another agree (watchers_of whole tag))

  -- a module that is watched
  watched_falls : (tag : List ℕ) → Falls (watched whole tag) (watched less tag)
  watched_falls tag = watching_falls tag (λ batch. Some (Watched batch)) (λ batch. Some (Watched batch))
      (λ batch. inl refl) (λ batch out. refl)

  -- the rule of an active step of the holder
  active_falls : (tag : List ℕ) → Falls (active_step whole tag) (active_step less tag)
  active_falls tag =
      holder_falls bound whole less tag _ _ (λ batch. active_another (recipes whole) tag batch
      (past_of_batch batch whole))
      (λ batch out. rw (alike.batch_pasts batch out, alike.same_recipes)) (alike.holders tag)

  -- the rule of a role of the holder that the module wouldn't cover
  back_falls : (tag : List ℕ) (description : PlainDescription)
      → Falls (held_back whole tag description) (held_back less tag description)
  back_falls tag description =
      or_falls _ _ _ _
      (holder_falls bound whole less tag (uncovered_in whole tag description) (uncovered_in less tag description)
      (λ batch. back_another (recipes whole) tag description batch (past_of_batch batch whole))
      same (alike.holders tag))
      (watching_falls tag (uncovered_in whole tag description) (uncovered_in less tag description)
      (λ batch. back_another (recipes whole) tag description batch (past_of_batch batch whole)) same)
    where
      same : (batch : List ℕ) → is_among bound batch ≡ false →
          uncovered_in less tag description batch ≡ uncovered_in whole tag description batch
      same batch out = rw (alike.batch_pasts batch out, alike.same_recipes)

  -- a plant that is full: fewer modules are there after the smaller history
  plant_falls : Falls (plant_full whole) (plant_full less)
  plant_falls = when_falls PlantFull refl (nat_le MOST_MODULES (length (present_tags whole)))
      (nat_le MOST_MODULES (length (present_tags less)))
      (fewer_reach MOST_MODULES (length (present_tags less)) (length (present_tags whole)) alike.fewer_tags)

  -- a plant with all its batches: the smaller history has fewer starts
  batches_fall : Falls (batches_full whole) (batches_full less)
  batches_fall = when_falls BatchesFull refl (nat_le MOST_BATCHES (length (filter is_start whole)))
      (nat_le MOST_BATCHES (length (filter is_start less)))
      (fewer_reach MOST_BATCHES (length (filter is_start less)) (length (filter is_start whole)) alike.fewer_starts)

  -- ---- starts

  -- the rule of a module that plays a role and isn't taken out is the same
  module_same : (chart : PlainChart) (role : List ℕ) (played : Option (List ℕ))
      → ((tag : List ℕ) → played ≡ Some tag → is_among tags tag ≡ false) →
      module_rule less chart role played ≡ module_rule whole chart role played
  module_same chart role None outside = refl
  module_same chart role (Some tag) outside = ap (λ past. first_of (module_rules chart role tag past))
      (alike.pasts tag (outside tag refl))

  -- and so are those of all the roles of a start that binds none of them
  modules_same : (chart : PlainChart) (binds : List Bind) → is_some_among tags (tags_of binds) ≡ false
      → (roles : List (List ℕ)) →
      modules_unfit less chart binds roles ≡ modules_unfit whole chart binds roles
  modules_same chart binds apart roles =
      ap (λ rule. first_of (map rule roles))
      (fun_ext (λ role. module_same chart role (bound_tag binds role)
      (λ tag is. played_outside tags binds role tag apart is)))

  -- the rule of a busy module for one role
  busy_role_falls : (played : Option (List ℕ)) → Falls (busy_role whole played) (busy_role less played)
  busy_role_falls None = inr refl
  busy_role_falls (Some tag) = holder_falls bound whole less tag _ _ (λ batch. inl refl) (λ batch out. refl)
      (alike.holders tag)

  -- and the first of them for all the roles
  busy_falls : (binds : List Bind) (roles : List (List ℕ)) → Falls (busy whole binds roles) (busy less binds roles)
  busy_falls binds roles = first_of_falls _ _ (λ role. busy_role_falls (bound_tag binds role)) roles

  -- the rules of a start
  start_falls : (batch : List ℕ) (binds : PlainAllocation) → is_among bound batch ≡ false
      → is_some_among tags (tags_of (given binds)) ≡ false → (chart : Option PlainChart) →
      AllFall (start_rules whole batch binds chart) (start_rules less batch binds chart)
  start_falls batch binds out apart None = (inr refl, tt)
  start_falls batch binds out apart (Some chart) =
      rw (alike.batch_pasts batch out) (
        inr refl,
        (
          inr refl,
          (
            inr refl,
            (
              inr refl,
              (
                inr refl,
                (
                  inr (modules_same chart (given binds) apart (role_names chart)),
                  (busy_falls binds.held (role_names chart), (batches_fall, tt)),
                ),
              ),
            ),
          ),
        ),
      )

  -- ---- the next entry of a batch

  -- what is seen through the binds of a batch, with its two ways of looking
  sees : List Bind → (List ℕ → List ℕ → Sight) → (List ℕ → List ℕ → ReadingSight) → Sights
  sees binds views readings = record { tag = bound_tag binds; view = views; reading = readings }

  -- a batch that binds no module that is taken out sees the same
  sights_same : (binds : List Bind) → is_some_among tags (tags_of binds) ≡ false
      → sights_by binds (λ tag. past tag less) ≡ sights_by binds (λ tag. past tag whole)
  unfolding sees
  sights_same binds apart =
      ap (λ views. sees binds views (λ role name. variable_sight (λ tag. past tag less) name (bound_tag binds role)))
      (fun_ext (λ role. fun_ext (λ service. view_same service (bound_tag binds role)
      (λ tag is. played_outside tags binds role tag apart is))))
      ∙ ap (λ readings. sees binds (λ role service. service_sight (λ tag. past tag whole) service
      (bound_tag binds role)) readings)
      (fun_ext (λ role. fun_ext (λ name. reading_same name (bound_tag binds role)
      (λ tag is. played_outside tags binds role tag apart is))))
    where
      view_same : (service : List ℕ) (played : Option (List ℕ))
          → ((tag : List ℕ) → played ≡ Some tag → is_among tags tag ≡ false) →
          service_sight (λ tag. past tag less) service played ≡ service_sight (λ tag. past tag whole) service played
      view_same service None outside = refl
      view_same service (Some tag) outside = rw (alike.pasts tag (outside tag refl))

      reading_same : (name : List ℕ) (played : Option (List ℕ))
          → ((tag : List ℕ) → played ≡ Some tag → is_among tags tag ≡ false) →
          variable_sight (λ tag. past tag less) name played ≡ variable_sight (λ tag. past tag whole) name played
      reading_same name None outside = refl
      reading_same name (Some tag) outside = rw (alike.pasts tag (outside tag refl))

  -- and what comes next for it is the same
  next_same : (batch : List ℕ) → is_among bound batch ≡ false → next_of less batch ≡ next_of whole batch
  next_same batch out = rw (alike.batch_pasts batch out, alike.same_recipes) (go (start_of whole batch) refl)
    where
      go : (started : Option Started) → start_of whole batch ≡ started →
          option_and_then (next_of_started (recipes whole) (past_of_batch batch whole) (λ tag. past tag less)) started
          ≡ option_and_then (next_of_started (recipes whole) (past_of_batch batch whole)
          (λ tag. past tag whole)) started
      go None is = refl
      go (Some started) is =
          ap (λ seen. option_map
          (λ chart. next_by chart (freezing_by (past_of_batch batch whole))
          (log_by (past_of_batch batch whole)) seen) (chart_by (recipes whole) (Some started)))
          (sights_same (given started.binds) (alike.apart batch started out is))

  -- ---- all kinds

  -- each rule of an event that stays falls or is the same
  rules_fall : (event : PlainEvent) → is_of tags bound (subject event) ≡ false → binds_one tags event ≡ false
      → AllFall (rules whole event) (rules less event)
  rules_fall (plug at tag description) out apart = rw (alike.pasts tag out) (inr refl, (plant_falls, tt))
  rules_fall (unplug at tag) out apart = rw (alike.pasts tag out)
      (inr refl, (inr refl, (held_falls tag, (watched_falls tag, tt))))
  rules_fall (report at tag service control) out apart = rw (alike.pasts tag out)
      (all_same (rules whole (report at tag service control)))
  rules_fall (variable at tag name value) out apart = rw (alike.pasts tag out)
      (all_same (rules whole (variable at tag name value)))
  rules_fall (recipe at name chart) out apart = rw alike.same_recipes (all_same (rules whole (recipe at name chart)))
  rules_fall (start at batch name binds) out apart = rw alike.same_recipes
      (start_falls batch binds out apart (chart_named name (recipes whole)))
  rules_fall (advance at batch) out apart = rw (alike.batch_pasts batch out) (all_same (rules whole (advance at batch)))
  rules_fall (freeze at batch hold) out apart =
      rw (alike.batch_pasts batch out) (all_same (rules whole (freeze at batch hold)))
  rules_fall (thaw at batch) out apart = rw (alike.batch_pasts batch out) (all_same (rules whole (thaw at batch)))
  rules_fall (stop_batch at batch) out apart = rw (alike.batch_pasts batch out)
      (all_same (rules whole (stop_batch at batch)))
  rules_fall (abandon at batch) out apart = rw (alike.batch_pasts batch out) (all_same (rules whole (abandon at batch)))
  rules_fall (desk at tag service command) out apart = rw (alike.pasts tag out)
      (all_same (rules whole (desk at tag service command)))
  rules_fall (exchange_begin at tag) out apart = rw (alike.pasts tag out)
      (inr refl, (inr refl, (active_falls tag, (inr refl, tt))))
  rules_fall (exchange_end at tag ticket description) out apart =
      rw (alike.pasts tag out) (inr refl, (inr refl, (inr refl, (back_falls tag description, tt))))
  rules_fall (exchange_cancel at tag ticket) out apart = rw (alike.pasts tag out)
      (all_same (rules whole (exchange_cancel at tag ticket)))

  -- what answers it where no rule holds is the same
  otherwise_same : (event : PlainEvent) → is_of tags bound (subject event) ≡ false
      → otherwise less event ≡ otherwise whole event
  otherwise_same (advance at batch) out = ap advanced (next_same batch out)
  otherwise_same (stop_batch at batch) out = ap stopped (alike.batch_pasts batch out)
  otherwise_same (exchange_begin at tag) out = ap (λ past. Ticket (next_ticket past)) (alike.pasts tag out)
  otherwise_same _ out = refl

  -- an event that stays, and isn't refused for another's sake, is answered alike
  pub answered_alike : (event : PlainEvent) → is_of tags bound (subject event) ≡ false → binds_one tags event ≡ false →
      is_refused_for_another (answer_of whole event) ≡ false → answer_of less event ≡ answer_of whole event
  answered_alike event out apart own =
      first_falls (when (is_full whole) HistoryFull ∷ rules whole event)
      (when (is_full less) HistoryFull ∷ rules less event) (otherwise whole event) (otherwise less event) (
        when_falls HistoryFull refl (is_full whole) (is_full less)
            (fewer_reach LONGEST_HISTORY (length less) (length whole) alike.fewer),
        rules_fall event out apart,
      )
      (otherwise_same event out) own
