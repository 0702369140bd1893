-- The rules of an event agree after two histories whose batches are alike, where what they read of the module is the
-- same.
use Rattle.std.proofs.Common.{◌≡◌, subst, ℕ, suc, true, false, Bool, List, [], ◌∷◌, refl, ap, sym, ◌∙◌, inr, map}
use Rattle.std.proofs.Common.{Option, Some, None, option_and_then, is_none, is_some}
use Rattle.std.specs.List.{AllByRecursion}
use Rattle.std.specs.Option.{option_or}
use Rattle.std.specs.Prelude.{filter, filter_map, reverse}
use Rattle.std.proofs.Math.Path.{fun_ext}
use Rattle.mtp_codes.specs.Faults.{first_of}
use Rattle.mtp_codes.specs.Names.{is_among}
use Rattle.mtp_codes.specs.declared.value.Value.{Value}
use Rattle.mtp_assembly.specs.declared.control.ServiceControl.{ServiceControl}
use Rattle.mtp_desc.specs.Plain.{PlainDescription}
use Rattle.chart_core.specs.declared.next.Outcome.{Outcome}
use Rattle.pol_events.specs.Events.{PlainEvent, unplug, report, variable, freeze, thaw, stop_batch, abandon}
use Rattle.pol_events.specs.Events.{exchange_begin, exchange_end, exchange_cancel, plug}
use Rattle.pol_events.specs.declared.event.Bind.{Bind}
use Rattle.pol_events.specs.declared.answer.Rule.{Rule}
use Rattle.pol_events.specs.declared.answer.Answer.TheVariants.{Ticket, Done}
use Rattle.pol_events.specs.Refusals.{in_exchange, no_service, not_an_edge}
use Rattle.pol_events.specs.Bound.{bound_tag}
use Rattle.pol_history.specs.Looking.{History, last_of, past, past_of_batch, recipes}
use Rattle.pol_history.specs.Modules.{docking_by, begins_by, description_by, control_by, ticket_of}
use Rattle.pol_history.specs.Batches.{outcome_of, takes, watches, is_open, holder_of, watchers_of}
use Rattle.pol_history.specs.Rules.{tag_taken, no_module, plant_full, module_not_at_rest, active_step_on, active_step}
use Rattle.pol_history.specs.Rules.{busy, busy_role, uncovered_in, held_back}
use Rattle.pol_history.specs.Answers.{rules, stopped, otherwise}
use Rattle.pol_history.proofs.Filters.{all_of, filter_reverse}
use Rattle.pol_history.proofs.Open.{open_some}
use Rattle.pol_removal.proofs.Each.{all_kept, all_map}
use Rattle.pol_compaction.specs.Alike.{BatchesAlike}
use Rattle.pol_compaction.proofs.Firsts.{Agrees, AllAgree, all_agree}

-- an option that is none
pub not_some : (outcome : Option Outcome) → is_none outcome ≡ true → outcome ≡ None
not_some None is = refl
not_some (Some outcome) is = cc

-- what is kept passes the test
pub filtered : {X : Type 0} (keeps : X → Bool) (xs : List X) → AllByRecursion (λ x. keeps x ≡ true) (filter keeps xs)
filtered keeps xs =
    all_map (λ x. Unit {0} × (keeps x ≡ true)) (λ x. keeps x ≡ true) (λ x both. both.1) (filter keeps xs)
    (all_kept (λ x. Unit {0}) keeps xs (all_of (λ x. Unit {0}) (λ x. tt) xs))

-- each batch that watches a module is open
pub watchers_are_open : (history : History) (tag : List ℕ) →
    AllByRecursion (λ batch. is_open history batch ≡ true) (watchers_of history tag)
watchers_are_open history tag = subst (AllByRecursion (λ batch. is_open history batch ≡ true))
    (sym (filter_reverse (is_open history) (filter_map (watches tag) history)))
    (filtered (is_open history) (reverse (filter_map (watches tag) history)))

module _ (gone : List (List ℕ)) (whole less : History) (alike : BatchesAlike gone whole less) where
  -- the rules of an event and its answer agree
  abbrev pub AgreeOn : PlainEvent → Type 0
  AgreeOn event = AllAgree (rules whole event) (rules less event) (otherwise whole event) (otherwise less event)

  -- the tag is docked alike
  abbrev pub DocksAlike : List ℕ → Type 0
  DocksAlike tag = docking_by (past tag less) ≡ docking_by (past tag whole)

  -- the tag's module has the same description
  abbrev pub IsDescribedAlike : List ℕ → Type 0
  IsDescribedAlike tag = description_by (past tag less) ≡ description_by (past tag whole)

  -- ---- holders and watchers

  -- an open batch isn't forgotten
  open_not_gone : (batch : List ℕ) → outcome_of whole batch ≡ None → is_among gone batch ≡ false
  open_not_gone batch is = go (is_among gone batch) refl
    where
      go : (inside : Bool) → is_among gone batch ≡ inside → is_among gone batch ≡ false
      go false out = out
      go true out = let clash : false ≡ true = ap is_some (sym is) ∙ alike.closed batch out in cc

  -- what is asked of the holder is answered alike
  holder_same : (tag : List ℕ) (ones others : List ℕ → Option Rule) →
      ((batch : List ℕ) → is_among gone batch ≡ false → others batch ≡ ones batch) →
      option_and_then others (holder_of less tag) ≡ option_and_then ones (holder_of whole tag)
  holder_same tag ones others same = rw (alike.holders tag) (go (holder_of whole tag) refl)
    where
      go : (holder : Option (List ℕ)) → holder_of whole tag ≡ holder →
          option_and_then others holder ≡ option_and_then ones holder
      go None is = refl
      go (Some batch) is = same batch (open_not_gone batch (open_some whole (last_of (takes tag) whole) batch is).1)

  -- the active step of the holder is the same
  active_same : (tag : List ℕ) → active_step less tag ≡ active_step whole tag
  active_same tag =
      holder_same tag (λ batch. active_step_on (recipes whole) tag batch (past_of_batch batch whole))
      (λ batch. active_step_on (recipes less) tag batch (past_of_batch batch less))
      (λ batch out. let same = alike.batches batch out in rw (alike.same_recipes, same.start, same.log))

  -- so is what the new module doesn't cover
  uncovered_same : (tag : List ℕ) (description : PlainDescription) (batch : List ℕ) → is_among gone batch ≡ false →
      uncovered_in less tag description batch ≡ uncovered_in whole tag description batch
  uncovered_same tag description batch out =
      let same = alike.batches batch out in rw (alike.same_recipes, same.start)

  -- what is asked of open batches is answered alike
  each_same : (ones others : List ℕ → Option Rule) →
      ((batch : List ℕ) → is_among gone batch ≡ false → others batch ≡ ones batch) → (batches : List (List ℕ)) →
      AllByRecursion (λ batch. is_open whole batch ≡ true) batches →
      first_of (map others batches) ≡ first_of (map ones batches)
  each_same ones others same [] all = refl
  each_same ones others same (batch ∷ batches) all =
      rw (
        same batch (open_not_gone batch (not_some (outcome_of whole batch) all.0)),
        each_same ones others same batches all.1,
      )

  -- what the new module doesn't cover is the same for the holder and the watchers of a module
  back_same : (tag : List ℕ) (description : PlainDescription) →
      held_back less tag description ≡ held_back whole tag description
  back_same tag description =
      ap (λ first. option_or first (first_of (map (uncovered_in less tag description) (watchers_of less tag))))
      (holder_same tag (uncovered_in whole tag description) (uncovered_in less tag description)
      (uncovered_same tag description))
      ∙ ap (option_or (option_and_then (uncovered_in whole tag description) (holder_of whole tag)))
      (ap (λ watchers. first_of (map (uncovered_in less tag description) watchers)) (alike.watchers tag)
      ∙ each_same (uncovered_in whole tag description) (uncovered_in less tag description)
      (uncovered_same tag description) (watchers_of whole tag) (watchers_are_open whole tag))

  -- the same modules are busy
  pub busy_same : (binds : List Bind) (roles : List (List ℕ)) → busy less binds roles ≡ busy whole binds roles
  busy_same binds roles = ap (λ rule. first_of (map rule roles)) (fun_ext (λ role. one (bound_tag binds role)))
    where
      one : (played : Option (List ℕ)) → busy_role less played ≡ busy_role whole played
      one None = refl
      one (Some tag) = rw (alike.holders tag)

  -- ---- events of a batch that isn't forgotten

  pub freezes : (at : ℕ) (batch : List ℕ) (hold : Bool) → is_among gone batch ≡ false → AgreeOn (freeze at batch hold)
  freezes at batch hold out =
      let same = alike.batches batch out in
      rw (same.start, same.outcome, same.holding, same.frozen)
      (all_agree (rules whole (freeze at batch hold)) Done Done refl)

  pub thaws : (at : ℕ) (batch : List ℕ) → is_among gone batch ≡ false → AgreeOn (thaw at batch)
  thaws at batch out =
      let same = alike.batches batch out in
      rw (same.start, same.outcome, same.frozen) (all_agree (rules whole (thaw at batch)) Done Done refl)

  pub stops : (at : ℕ) (batch : List ℕ) → is_among gone batch ≡ false → AgreeOn (stop_batch at batch)
  stops at batch out =
      let same = alike.batches batch out in
      rw (same.start, same.outcome, same.log) (all_agree (rules whole (stop_batch at batch))
      (stopped (past_of_batch batch whole)) (stopped (past_of_batch batch whole)) refl)

  pub abandons : (at : ℕ) (batch : List ℕ) → is_among gone batch ≡ false → AgreeOn (abandon at batch)
  abandons at batch out =
      let same = alike.batches batch out in
      rw (same.start, same.outcome) (all_agree (rules whole (abandon at batch))
      (otherwise whole (abandon at batch)) (otherwise whole (abandon at batch)) refl)

  -- ---- events of a module

  pub plugs : (at : ℕ) (tag : List ℕ) (description : PlainDescription) → DocksAlike tag →
      Agrees (plant_full whole) (plant_full less) → AgreeOn (plug at tag description)
  plugs at tag description docking full = (inr (ap tag_taken docking), λ none. (full, λ none. refl))

  pub unplugs : (at : ℕ) (tag : List ℕ) → DocksAlike tag → AgreeOn (unplug at tag)
  unplugs at tag docking =
      rw (docking, alike.holders tag, alike.watchers tag) (all_agree (rules whole (unplug at tag)) Done Done refl)

  pub reports : (at : ℕ) (tag service : List ℕ) (control : ServiceControl) → DocksAlike tag → IsDescribedAlike tag →
      Agrees (not_an_edge control.state (control_by service (past tag whole)))
      (not_an_edge control.state (control_by service (past tag less))) → AgreeOn (report at tag service control)
  reports at tag service control docking description edge = (
    inr (ap (no_module tag) docking),
    λ none. (
      inr (ap (λ docking. in_exchange tag (ticket_of docking)) docking),
      λ none. (inr (ap (option_and_then (no_service service)) description), λ none. (edge, λ none. refl)),
    ),
  )

  pub variables : (at : ℕ) (tag name : List ℕ) (value : Value) → DocksAlike tag → IsDescribedAlike tag →
      AgreeOn (variable at tag name value)
  variables at tag name value docking description =
      rw (docking, description) (all_agree (rules whole (variable at tag name value)) Done Done refl)

  pub begins : (at : ℕ) (tag : List ℕ) → DocksAlike tag → begins_by (past tag less) ≡ begins_by (past tag whole) →
      Agrees (option_and_then (module_not_at_rest (past tag whole)) (description_by (past tag whole)))
      (option_and_then (module_not_at_rest (past tag less)) (description_by (past tag less))) →
      AgreeOn (exchange_begin at tag)
  begins at tag docking begun rest = (
    inr (ap (no_module tag) docking),
    λ none. (
      inr (ap (λ docking. in_exchange tag (ticket_of docking)) docking),
      λ none. (inr (active_same tag), λ none. (rest, λ none. ap (λ count. Ticket (suc count)) begun)),
    ),
  )

  pub ends : (at : ℕ) (tag : List ℕ) (ticket : ℕ) (description : PlainDescription) → DocksAlike tag →
      AgreeOn (exchange_end at tag ticket description)
  ends at tag ticket description docking = rw docking (
    inr refl,
    λ none. (inr refl, λ none. (inr refl, λ none. (inr (back_same tag description), λ none. refl))),
  )

  pub cancels : (at : ℕ) (tag : List ℕ) (ticket : ℕ) → DocksAlike tag → AgreeOn (exchange_cancel at tag ticket)
  cancels at tag ticket docking =
      rw docking (all_agree (rules whole (exchange_cancel at tag ticket)) Done Done refl)
