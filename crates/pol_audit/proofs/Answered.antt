-- The answer by the first rule that holds.
use Rattle.std.proofs.Common.{◌≡◌, ◌<◌, false, arith, ◌∷◌, [], List, length, Option, Some, None, refl, ap, ◌∙◌}
use Rattle.std.specs.Prelude.{nat_le}
use Rattle.std.proofs.lemmas.Bool.{false_from_ne_true, leb-true}
use Rattle.mtp_codes.specs.Faults.{when, first_of}
use Rattle.mtp_codes.specs.declared.limits.TheConstants.{LONGEST_HISTORY}
use Rattle.pol_events.proofs.Histories.{length_history}
use Rattle.pol_events.specs.Events.{PlainEvent, plain_history}
use Rattle.pol_events.specs.declared.answer.Answer.{Answer}
use Rattle.pol_events.specs.declared.answer.Answer.TheVariants.{Refused}
use Rattle.pol_events.specs.declared.answer.Rule.{Rule}
use Rattle.pol_events.specs.declared.answer.Rule.TheVariants.{HistoryFull}
use Rattle.pol_events.specs.declared.event.Entry.{Entry}
use Rattle.pol_history.specs.Looking.{History}
use Rattle.pol_history.specs.Answers.{rules, otherwise, first_rule, is_full, answer_of}

-- the rule as a refusal, else the answer
abbrev pub refused_or : Option Rule → Answer → Answer
refused_or None answer = answer
refused_or (Some rule) answer = Refused rule

-- the answer by the first rule that holds is its refusal, or the answer itself where none holds
answered_is : (rules : List (Option Rule)) (answer : Answer)
    → first_rule rules answer ≡ refused_or (first_of rules) answer
answered_is [] answer = refl
answered_is (Some rule ∷ rules) answer = refl
answered_is (None ∷ rules) answer = answered_is rules answer

-- a history that has room is not full
not_full : (history : History) → length history < LONGEST_HISTORY → is_full history ≡ false
not_full history room =
    false_from_ne_true (nat_le LONGEST_HISTORY (length history))
    (λ full. let over = leb-true LONGEST_HISTORY (length history) full in absurd (omega arith))

-- the answer where the history has room: the first rule that holds, else what is answered otherwise
pub answered : (entries : List Entry) (event : PlainEvent) → length entries < LONGEST_HISTORY →
    answer_of (plain_history entries) event
    ≡ refused_or (first_of (rules (plain_history entries) event)) (otherwise (plain_history entries) event)
answered entries event room =
    ap (λ full. first_rule (when full HistoryFull ∷ rules (plain_history entries) event)
    (otherwise (plain_history entries) event))
    (not_full (plain_history entries) (rw (length_history entries) room))
    ∙ answered_is (rules (plain_history entries) event) (otherwise (plain_history entries) event)
