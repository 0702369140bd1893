-- An accepted event meets none of its rules.
use Rattle.std.proofs.Common.{◌≡◌, true, false, List, [], ◌∷◌, Option, Some, None, refl, ap}
use Rattle.mtp_codes.specs.Faults.{when}
use Rattle.pol_events.specs.Events.{PlainEvent, PlainEntry}
use Rattle.pol_events.specs.declared.answer.Rule.{Rule}
use Rattle.pol_events.specs.declared.answer.Rule.TheVariants.{HistoryFull}
use Rattle.pol_events.specs.declared.answer.Answer.{Answer}
use Rattle.pol_history.specs.Looking.{History, is_accepted}
use Rattle.pol_history.specs.Answers.{rules, otherwise, first_rule, is_full, answer_of}

-- no rule of the list holds
abbrev pub NoneHolds : List (Option Rule) → Type 0
NoneHolds [] = Unit {0}
NoneHolds (rule ∷ rules) = (rule ≡ None) × NoneHolds rules

-- where the answer is accepted no rule holds
pub none_holds : (rules : List (Option Rule)) (answer : Answer) → is_accepted (first_rule rules answer) ≡ true
    → NoneHolds rules
none_holds [] answer accepted = tt
none_holds (Some rule ∷ rules) answer accepted = cc
none_holds (None ∷ rules) answer accepted = (refl, none_holds rules answer accepted)

-- where no rule holds the answer is the other one
pub otherwise_it_is : (rules : List (Option Rule)) (answer : Answer) → NoneHolds rules
    → first_rule rules answer ≡ answer
otherwise_it_is [] answer none = refl
otherwise_it_is (Some rule ∷ rules) answer none = cc
otherwise_it_is (None ∷ rules) answer none = otherwise_it_is rules answer none.1

-- an accepted event meets none of the rules of its kind
pub accepted_none : (history : History) (event : PlainEvent) → is_accepted (answer_of history event) ≡ true
    → NoneHolds (rules history event)
accepted_none history event accepted =
    (none_holds (when (is_full history) HistoryFull ∷ rules history event) (otherwise history event) accepted).1

-- and is answered by what is answered otherwise
pub accepted_otherwise : (history : History) (event : PlainEvent) → is_accepted (answer_of history event) ≡ true
    → answer_of history event ≡ otherwise history event
accepted_otherwise history event accepted =
    otherwise_it_is (when (is_full history) HistoryFull ∷ rules history event) (otherwise history event)
    (none_holds (when (is_full history) HistoryFull ∷ rules history event) (otherwise history event) accepted)

-- where the history has room, its fullness refuses nothing
pub with_room : (history : History) (event : PlainEvent) → is_full history ≡ false →
    answer_of history event ≡ first_rule (rules history event) (otherwise history event)
with_room history event room =
    ap (λ full. first_rule (when full HistoryFull ∷ rules history event) (otherwise history event)) room

-- an event with an answer
abbrev pub paired : PlainEvent → Answer → PlainEntry
paired event answer = record { event = event; answer = answer }
