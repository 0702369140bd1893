-- A refused event changes nothing that is looked back at.
use Rattle.std.proofs.Common.{◌≡◌, ℕ, false, cond, List, ◌∷◌, reverse, Option, Some, None, is_some, is_none, refl, ap}
use Rattle.std.proofs.Common.{◌∙◌}
use Rattle.std.specs.Prelude.{filter, filter_map}
use Rattle.std.specs.List.{cons_option}
use Rattle.std.specs.Option.{option_or}
use Rattle.std.proofs.lemmas.Bool.{and_right}
use Rattle.std.proofs.Math.Path.{fun_ext}
use Rattle.pol_events.specs.Events.{PlainEvent, PlainEntry, plug, unplug}
use Rattle.pol_history.specs.Looking.{History, subject, is_module, is_batch, is_recipe, is_accepted, past}
use Rattle.pol_history.specs.Looking.{past_of_batch, recipes, last_of}
use Rattle.pol_history.specs.Modules.{present_after, present_tags}
use Rattle.pol_history.specs.Batches.{starting, started_batch, taking, takes, watching, watches, outcome_by, if_open}
use Rattle.pol_history.specs.Batches.{is_open, is_start}
use Rattle.pol_history.specs.Refused.{RefusedChangesNothing}

-- a refused event docks nothing and takes nothing away
present_refused : (event : PlainEvent) (tags : List (List ℕ)) → present_after event false tags ≡ tags
present_refused (plug at tag description) tags = refl
present_refused (unplug at tag) tags = refl
present_refused _ tags = refl

-- nor does it close a batch
open_refused : (entry : PlainEntry) (history : History) →
    ((batch : List ℕ) → past_of_batch batch (entry ∷ history) ≡ past_of_batch batch history) →
    (found : Option (List ℕ)) → if_open (entry ∷ history) found ≡ if_open history found
open_refused entry history same None = refl
open_refused entry history same (Some batch) =
    ap (λ past. cond (is_none (outcome_by past)) (Some batch) None) (same batch)

-- the pasts, the recipes, the holders, the tags that are there and the batches stay
pub refused_nothing : RefusedChangesNothing
refused_nothing entry history refused =
    record {
      modules = λ tag. ap (λ kept. cond kept (entry ∷ past tag history) (past tag history))
          (and_right (is_module tag (subject entry.event)) (is_accepted entry.answer) refused);
      batch_pasts = batch_pasts;
      recipes = ap (λ kept. cond kept (entry ∷ recipes history) (recipes history))
          (and_right (is_recipe (subject entry.event)) (is_accepted entry.answer) refused);
      holders = λ tag.
          ap (λ kept. if_open (entry ∷ history) (option_or (cond kept (taking tag entry.event) None)
          (last_of (takes tag) history)))
          refused
          ∙ open_refused entry history batch_pasts (last_of (takes tag) history);
      watchers = λ tag.
          ap (λ kept. reverse (filter (is_open (entry ∷ history))
          (cons_option (cond kept (watching tag entry.event) None) (filter_map (watches tag) history))))
          refused
          ∙ ap (λ test. reverse (filter test (filter_map (watches tag) history)))
          (fun_ext (λ batch. ap (λ past. is_none (outcome_by past)) (batch_pasts batch)));
      present =
          ap (λ kept. present_after entry.event kept (present_tags history)) refused
          ∙ present_refused entry.event (present_tags history);
      batches = ap (λ kept. reverse (cons_option (cond kept (started_batch entry.event) None)
          (filter_map (λ entry. cond (is_accepted entry.answer) (started_batch entry.event) None) history))) refused;
    }
  where
    batch_pasts : (batch : List ℕ) → past_of_batch batch (entry ∷ history) ≡ past_of_batch batch history
    batch_pasts batch =
        ap (λ kept. cond kept (entry ∷ past_of_batch batch history) (past_of_batch batch history))
        (and_right (is_batch batch (subject entry.event)) (is_accepted entry.answer) refused)

-- and so do the starts
pub starts_refused : (entry : PlainEntry) (history : History) → is_accepted entry.answer ≡ false →
    filter is_start (entry ∷ history) ≡ filter is_start history
starts_refused entry history refused =
    ap (λ kept. cond kept (entry ∷ filter is_start history) (filter is_start history))
    (and_right (is_some (starting entry.event)) (is_accepted entry.answer) refused)
