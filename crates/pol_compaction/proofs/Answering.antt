-- Two plants that are alike answer alike.
use Rattle.std.proofs.Common.{◌≡◌, ℕ, false, List, [], ◌∷◌, length, refl, ap, sym, ◌∙◌, inl, inr, option_and_then}
use Rattle.std.proofs.Math.Path.{fun_ext}
use Rattle.mtp_codes.specs.Faults.{when}
use Rattle.mtp_codes.specs.declared.limits.TheConstants.{LONGEST_HISTORY, MOST_MODULES}
use Rattle.mtp_codes.specs.declared.value.Value.{Value}
use Rattle.mtp_codes.specs.declared.command.Command.{Command}
use Rattle.mtp_assembly.specs.declared.control.ServiceControl.{ServiceControl}
use Rattle.mtp_desc.specs.Plain.{PlainDescription}
use Rattle.pol_events.specs.Events.{PlainEvent, plug, unplug, report, variable, recipe, start, advance, freeze, thaw}
use Rattle.pol_events.specs.Events.{stop_batch, abandon, desk, exchange_begin, exchange_end, exchange_cancel}
use Rattle.pol_events.specs.declared.answer.Rule.TheVariants.{HistoryFull, PlantFull}
use Rattle.pol_events.specs.declared.answer.Answer.TheVariants.{Done}
use Rattle.pol_events.specs.Refusals.{not_an_edge, not_at_rest}
use Rattle.std.specs.Prelude.{nat_le}
use Rattle.pol_history.specs.Looking.{History, subject, past, recipes}
use Rattle.pol_history.specs.Modules.{docking_by, description_by}
use Rattle.pol_history.specs.Batches.{chart_named}
use Rattle.pol_history.specs.Rules.{module_not_at_rest}
use Rattle.pol_history.specs.Answers.{rules, otherwise, is_full}
use Rattle.pol_removal.specs.Removal.{is_of}
use Rattle.pol_compaction.specs.Alike.{IsSameModule, AnswersAlike, AlikeAnswersAlike}
use Rattle.pol_compaction.proofs.Firsts.{first_agrees, all_agree, limit_agrees}
use Rattle.pol_compaction.proofs.Agreeing.{AgreeOn, plugs, unplugs, reports, variables, begins, ends, cancels, freezes}
use Rattle.pol_compaction.proofs.Agreeing.{thaws, stops, abandons}
use Rattle.pol_compaction.proofs.Sights.{starts, advances}

-- pasts that look the same dock the tag alike, and so do those by which it isn't there
same_docking : (whole less : History) → IsSameModule whole less → docking_by less ≡ docking_by whole
same_docking whole less (inl away) = away.1 ∙ sym away.0
same_docking whole less (inr same) = same.stands.docking

module _ (gone : List (List ℕ)) (whole less : History) (alike : AnswersAlike gone whole less) where
  -- the rules of an event and its answer agree
  abbrev AgreesOn : PlainEvent → Type 0
  AgreesOn event = AgreeOn gone whole less alike.running event

  -- the tag is docked alike
  docking_same : (tag : List ℕ) → docking_by (past tag less) ≡ docking_by (past tag whole)
  docking_same tag = same_docking (past tag whole) (past tag less) (alike.modules tag)

  -- a report of a module
  on_report : (at : ℕ) (tag service : List ℕ) (control : ServiceControl) → AgreesOn (report at tag service control)
  on_report at tag service control = go (alike.modules tag)
    where
      go : IsSameModule (past tag whole) (past tag less) → AgreesOn (report at tag service control)
      go (inl away) = rw (away.0, away.1) (inr refl, λ none. cc)
      go (inr same) = reports gone whole less alike.running at tag service control same.stands.docking
          same.stands.description (inr (ap (not_an_edge control.state) (same.control service)))

  -- a value
  on_variable : (at : ℕ) (tag name : List ℕ) (value : Value) → AgreesOn (variable at tag name value)
  on_variable at tag name value = go (alike.modules tag)
    where
      go : IsSameModule (past tag whole) (past tag less) → AgreesOn (variable at tag name value)
      go (inl away) = rw (away.0, away.1) (inr refl, λ none. cc)
      go (inr same) = variables gone whole less alike.running at tag name value same.stands.docking
          same.stands.description

  -- an operator's command
  on_desk : (at : ℕ) (tag service : List ℕ) (command : Command) → AgreesOn (desk at tag service command)
  on_desk at tag service command = go (alike.modules tag)
    where
      go : IsSameModule (past tag whole) (past tag less) → AgreesOn (desk at tag service command)
      go (inl away) = rw (away.0, away.1) (inr refl, λ none. cc)
      go (inr same) = rw (same.stands.docking, same.stands.description, same.control service)
          (all_agree (rules whole (desk at tag service command)) (otherwise whole (desk at tag service command))
          (otherwise whole (desk at tag service command)) refl)

  -- the begin of an exchange
  on_begin : (at : ℕ) (tag : List ℕ) → AgreesOn (exchange_begin at tag)
  on_begin at tag = go (alike.modules tag)
    where
      go : IsSameModule (past tag whole) (past tag less) → AgreesOn (exchange_begin at tag)
      go (inl away) = rw (away.0, away.1) (inr refl, λ none. cc)
      go (inr same) = begins gone whole less alike.running at tag same.stands.docking same.stands.begins
          (inr (ap (option_and_then (module_not_at_rest (past tag less))) same.stands.description
          ∙ ap (λ last. option_and_then (λ (description : PlainDescription). not_at_rest last description.services)
          (description_by (past tag whole))) (fun_ext same.control)))

  -- the rules and the answer of each event that is of no forgotten batch agree
  agrees : (event : PlainEvent) → is_of [] gone (subject event) ≡ false → AgreesOn event
  agrees (plug at tag description) out = plugs gone whole less alike.running at tag description (docking_same tag)
      (inr (ap (λ tags. when (nat_le MOST_MODULES (length tags)) PlantFull) alike.same_tags))
  agrees (unplug at tag) out = unplugs gone whole less alike.running at tag (docking_same tag)
  agrees (report at tag service control) out = on_report at tag service control
  agrees (variable at tag name value) out = on_variable at tag name value
  agrees (recipe at name chart) out =
      rw alike.running.same_recipes (all_agree (rules whole (recipe at name chart)) Done Done refl)
  agrees (start at batch name binds) out = rw alike.running.same_recipes
      (starts gone whole less alike.running batch binds (chart_named name (recipes whole)) out
      (λ tag inside. alike.modules tag))
  agrees (advance at batch) out = advances gone whole less alike.running at batch out
      (λ started is tag inside. alike.modules tag)
  agrees (freeze at batch hold) out = freezes gone whole less alike.running at batch hold out
  agrees (thaw at batch) out = thaws gone whole less alike.running at batch out
  agrees (stop_batch at batch) out = stops gone whole less alike.running at batch out
  agrees (abandon at batch) out = abandons gone whole less alike.running at batch out
  agrees (desk at tag service command) out = on_desk at tag service command
  agrees (exchange_begin at tag) out = on_begin at tag
  agrees (exchange_end at tag ticket description) out =
      ends gone whole less alike.running at tag ticket description (docking_same tag)
  agrees (exchange_cancel at tag ticket) out = cancels gone whole less alike.running at tag ticket (docking_same tag)

-- an event that is of no forgotten batch, and isn't refused as full, is answered alike
pub alike_answered : AlikeAnswersAlike
alike_answered gone whole less alike event out own =
    first_agrees (when (is_full whole) HistoryFull ∷ rules whole event)
    (when (is_full less) HistoryFull ∷ rules less event) (otherwise whole event) (otherwise less event) (
      limit_agrees HistoryFull refl LONGEST_HISTORY (length less) (length whole) alike.running.fewer,
      λ none. agrees gone whole less alike event out,
    ) own
