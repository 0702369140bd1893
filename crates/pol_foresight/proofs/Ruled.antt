-- An event that is done, unless a rule refuses it.
use Rattle.std.proofs.Common.{◌≡◌, false, [], ◌∷◌, Option, Some, None, Result, refl, ap, sym, ◌∙◌}
use Rattle.std.specs.Prelude.{⊤}
use Rattle.mtp_codes.specs.Faults.{first_of, when}
use Rattle.pol_events.specs.Events.{PlainEvent}
use Rattle.pol_events.specs.declared.answer.Answer.{Answer}
use Rattle.pol_events.specs.declared.answer.Answer.TheVariants.{Done}
use Rattle.pol_events.specs.declared.answer.Rule.{Rule}
use Rattle.pol_events.specs.declared.answer.Rule.TheVariants.{HistoryFull}
use Rattle.pol_history.specs.Answers.{answer_of, first_rule, is_full, otherwise, rules}
use Rattle.pol_history.specs.Looking.{History}
use Rattle.pol_core.specs.Calls.{refusal}
use Rattle.pol_core.specs.Seats.{done_or_refused}
use Rattle.pol_core.proofs.Judging.{refuse, refused_first_is, ruled}

-- by the first of its rules, where the history has room
pub by_rule : (history : History) (event : PlainEvent) (rule : Option Rule) (answer : Answer) →
    rule ≡ first_of (rules history event) → otherwise history event ≡ Done → answer ≡ first_rule (rule ∷ []) Done →
    is_full history ≡ false → answer ≡ answer_of history event
by_rule history event rule answer is done told room =
    told ∙ go rule ∙ ap (refuse rule) (sym done) ∙ sym (ruled history event rule room (sym is))
  where
    go : (rule : Option Rule) → first_rule (rule ∷ []) Done ≡ refuse rule Done
    go None = refl
    go (Some rule) = refl

-- by what refuses it
pub by_refusal : (history : History) (event : PlainEvent) (refused : Result ⊤ Rule) (answer : Answer) →
    refused ≡ refusal (answer_of history event) → otherwise history event ≡ Done → answer ≡ done_or_refused refused →
    answer ≡ answer_of history event
by_refusal history event refused answer is done told =
    told ∙ ap done_or_refused (is ∙ ap refusal same) ∙ go rule ∙ sym same
  where
    rule : Option Rule
    rule = first_of (when (is_full history) HistoryFull ∷ rules history event)

    same : answer_of history event ≡ refuse rule Done
    same =
        refused_first_is (when (is_full history) HistoryFull ∷ rules history event) (otherwise history event)
        ∙ ap (refuse rule) done

    go : (rule : Option Rule) → done_or_refused (refusal (refuse rule Done)) ≡ refuse rule Done
    go None = refl
    go (Some rule) = refl
