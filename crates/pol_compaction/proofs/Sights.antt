-- What a batch sees of its modules, and what comes next for it, after two histories whose batches are alike: the same,
-- where the modules that it binds look the same.
use Rattle.std.proofs.Common.{◌≡◌, ℕ, true, false, List, length, refl, ap, ◌∙◌, inl, inr, map, Option, Some, None}
use Rattle.std.proofs.Common.{option_map, option_and_then, is_some, subst}
use Rattle.std.specs.Option.{option_or}
use Rattle.std.specs.Prelude.{filter}
use Rattle.std.proofs.Math.Path.{fun_ext}
use Rattle.mtp_codes.specs.Faults.{when, first_of}
use Rattle.mtp_codes.specs.Names.{is_among}
use Rattle.mtp_codes.specs.declared.limits.TheConstants.{MOST_BATCHES}
use Rattle.chart_core.specs.Roles.{PlainChart, role_names}
use Rattle.chart_cursor.specs.Sights.{Sights}
use Rattle.chart_cursor.specs.declared.sight.Sight.{Sight}
use Rattle.chart_cursor.specs.declared.sight.ReadingSight.{ReadingSight}
use Rattle.chart_cursor.specs.NextEntry.{next_by}
use Rattle.pol_events.specs.Events.{advance}
use Rattle.pol_events.specs.declared.event.Bind.{Bind}
use Rattle.pol_events.specs.declared.answer.Rule.TheVariants.{BatchClosed, BatchesFull}
use Rattle.pol_events.specs.declared.answer.Answer.TheVariants.{Done}
use Rattle.pol_events.specs.Bound.{PlainAllocation, bound_tag, tags_of, given}
use Rattle.pol_events.proofs.Lists.{image_member, member_among}
use Rattle.pol_events.proofs.Played.{bound_member}
use Rattle.pol_history.specs.Looking.{History, past, past_of_batch, recipes}
use Rattle.pol_history.specs.Modules.{docking_by, view_by, value_by}
use Rattle.pol_history.specs.Batches.{Started, start_of, chart_by, freezing_by, log_by, is_start}
use Rattle.pol_history.specs.Following.{sight_in, reading_in, service_sight, variable_sight, sights_by, next_of_started}
use Rattle.pol_history.specs.Following.{next_of}
use Rattle.pol_history.specs.Rules.{batch_known, no_batch, module_rules, module_rule, not_ready, not_reported, not_idle}
use Rattle.pol_history.specs.Rules.{services_of, modules_unfit}
use Rattle.pol_history.specs.Answers.{start_rules, advanced}
use Rattle.pol_compaction.specs.Alike.{LooksSame, IsSameModule, RunsSame, BatchesAlike}
use Rattle.pol_compaction.proofs.Firsts.{AllAgree, limit_agrees}
use Rattle.pol_compaction.proofs.Agreeing.{AgreeOn, busy_same}

-- what is seen of a service is the same
pub same_view : (whole less : History) → LooksSame whole less → (service : List ℕ)
    → view_by service less ≡ view_by service whole
same_view whole less same service = rw (same.stands.description, same.control service)

-- so the same services are ready
same_ready : (whole less : History) → LooksSame whole less → (tag : List ℕ) (services : List (List ℕ)) →
    not_ready tag less services ≡ not_ready tag whole services
same_ready whole less same tag services =
    ap (λ rule. first_of (map rule services))
    (fun_ext (λ service. ap (λ view. option_or (not_reported tag service view) (not_idle tag service view))
    (same_view whole less same service)))

-- so is how a batch is frozen
same_freezing : (whole less : History) → RunsSame whole less → freezing_by less ≡ freezing_by whole
same_freezing whole less same = rw (same.holding, same.frozen, same.asked)

-- the tag of a role is among those that are bound
bound_among : (binds : List Bind) (role tag : List ℕ) → bound_tag binds role ≡ Some tag →
    is_among (tags_of binds) tag ≡ true
bound_among binds role tag bound =
    let (bind, inside, tag_is) = bound_member binds role tag bound in
    subst (λ name. is_among (tags_of binds) name ≡ true) tag_is
    (member_among (tags_of binds) bind.tag (image_member (λ bind. bind.tag) binds bind inside))

-- what is seen through some binds, with its two ways of looking
abbrev sees : List Bind → (List ℕ → List ℕ → Sight) → (List ℕ → List ℕ → ReadingSight) → Sights
sees binds views readings = record { tag = bound_tag binds; view = views; reading = readings }

module _ (whole less : History) where
  -- the module of a tag looks the same
  abbrev IsSame : List ℕ → Type 0
  IsSame tag = IsSameModule (past tag whole) (past tag less)

  -- and so do all that are bound
  abbrev pub AreSame : List Bind → Type 0
  AreSame binds = (tag : List ℕ) → is_among (tags_of binds) tag ≡ true → IsSame tag

  -- what is wrong with the module of a role is the same
  module_same : (chart : PlainChart) (role : List ℕ) (played : Option (List ℕ)) →
      ((tag : List ℕ) → played ≡ Some tag → IsSame tag) →
      module_rule less chart role played ≡ module_rule whole chart role played
  module_same chart role None same = refl
  module_same chart role (Some tag) same = go (same tag refl)
    where
      go : IsSame tag → first_of (module_rules chart role tag (past tag less))
          ≡ first_of (module_rules chart role tag (past tag whole))
      go (inl away) = rw (away.0, away.1)
      go (inr same) =
          rw (
            same_ready (past tag whole) (past tag less) same tag (services_of chart role),
            same.stands.docking,
            same.stands.description,
          )

  -- and of all the roles
  modules_same : (chart : PlainChart) (binds : List Bind) (roles : List (List ℕ)) → AreSame binds →
      modules_unfit less chart binds roles ≡ modules_unfit whole chart binds roles
  modules_same chart binds roles same =
      ap (λ rule. first_of (map rule roles))
      (fun_ext (λ role. module_same chart role (bound_tag binds role)
      (λ tag bound. same tag (bound_among binds role tag bound))))

  -- a service of a module is seen alike
  sight_same : (service : List ℕ) (played : Option (List ℕ)) → ((tag : List ℕ) → played ≡ Some tag → IsSame tag) →
      service_sight (λ tag. past tag less) service played ≡ service_sight (λ tag. past tag whole) service played
  sight_same service None same = refl
  sight_same service (Some tag) same = go (same tag refl)
    where
      go : IsSame tag → sight_in (docking_by (past tag less)) (view_by service (past tag less))
          ≡ sight_in (docking_by (past tag whole)) (view_by service (past tag whole))
      go (inl away) = rw (away.0, away.1)
      go (inr same) = rw (same.stands.docking, same_view (past tag whole) (past tag less) same service)

  -- and a variable
  reading_same : (name : List ℕ) (played : Option (List ℕ)) → ((tag : List ℕ) → played ≡ Some tag → IsSame tag) →
      variable_sight (λ tag. past tag less) name played ≡ variable_sight (λ tag. past tag whole) name played
  reading_same name None same = refl
  reading_same name (Some tag) same = go (same tag refl)
    where
      go : IsSame tag → reading_in (docking_by (past tag less)) (value_by name (past tag less))
          ≡ reading_in (docking_by (past tag whole)) (value_by name (past tag whole))
      go (inl away) = rw (away.0, away.1)
      go (inr same) = rw (same.stands.docking, same.value name)

  -- so a batch sees the same
  pub sights_same : (binds : List Bind) → AreSame binds →
      sights_by binds (λ tag. past tag less) ≡ sights_by binds (λ tag. past tag whole)
  sights_same binds same =
      ap (λ views. sees binds views (λ role name. variable_sight (λ tag. past tag less) name (bound_tag binds role)))
      (fun_ext (λ role. fun_ext (λ service. sight_same service (bound_tag binds role)
      (λ tag bound. same tag (bound_among binds role tag bound)))))
      ∙ ap (λ readings. sees binds (λ role service. service_sight (λ tag. past tag whole) service
      (bound_tag binds role)) readings)
      (fun_ext (λ role. fun_ext (λ name. reading_same name (bound_tag binds role)
      (λ tag bound. same tag (bound_among binds role tag bound)))))

module _ (gone : List (List ℕ)) (whole less : History) (alike : BatchesAlike gone whole less) where
  -- the rules of a start whose modules look the same
  pub starts : (batch : List ℕ) (binds : PlainAllocation) (chart : Option PlainChart) → is_among gone batch ≡ false →
      AreSame whole less (given binds) →
      AllAgree (start_rules whole batch binds chart) (start_rules less batch binds chart) Done Done
  starts batch binds None out same = (inr refl, λ none. refl)
  starts batch binds (Some chart) out same = (
    inr (ap batch_known (alike.batches batch out).start),
    λ none. (
      inr refl,
      λ none. (
        inr refl,
        λ none. (
          inr refl,
          λ none. (
            inr refl,
            λ none. (
              inr (modules_same whole less chart (given binds) (role_names chart) same),
              λ none. (
                inr (busy_same gone whole less alike binds.held (role_names chart)),
                λ none. (
                  limit_agrees BatchesFull refl MOST_BATCHES (length (filter is_start less))
                      (length (filter is_start whole)) alike.fewer_starts,
                  λ none. refl,
                ),
              ),
            ),
          ),
        ),
      ),
    ),
  )

  -- what comes next for a batch whose modules look the same
  pub next_same : (batch : List ℕ) → is_among gone batch ≡ false →
      ((started : Started) → start_of whole batch ≡ Some started → AreSame whole less (given started.binds)) →
      next_of less batch ≡ next_of whole batch
  next_same batch out sees_same =
      ap (option_and_then (next_of_started (recipes less) (past_of_batch batch less) (λ tag. past tag less))) same.start
      ∙ go (start_of whole batch) refl
    where
      same : RunsSame (past_of_batch batch whole) (past_of_batch batch less)
      same = alike.batches batch out

      go : (started : Option Started) → start_of whole batch ≡ started →
          option_and_then (next_of_started (recipes less) (past_of_batch batch less) (λ tag. past tag less)) started
          ≡ option_and_then (next_of_started (recipes whole) (past_of_batch batch whole) (λ tag. past tag whole))
          started
      go None is = refl
      go (Some started) is =
          rw (same_freezing (past_of_batch batch whole) (past_of_batch batch less) same, same.log, alike.same_recipes)
          (ap (λ seen. option_map
          (λ chart. next_by chart (freezing_by (past_of_batch batch whole))
          (log_by (past_of_batch batch whole)) seen) (chart_by (recipes whole) (Some started)))
          (sights_same whole less (given started.binds) (sees_same started is)))

  -- so an advance agrees
  pub advances : (at : ℕ) (batch : List ℕ) → is_among gone batch ≡ false →
      ((started : Started) → start_of whole batch ≡ Some started → AreSame whole less (given started.binds)) →
      AgreeOn gone whole less alike (advance at batch)
  advances at batch out sees_same =
      let same = alike.batches batch out in (
        inr (ap no_batch same.start),
        λ none. (
          inr (ap (λ outcome. when (is_some outcome) BatchClosed) same.outcome),
          λ none. ap advanced (next_same batch out sees_same),
        ),
      )
