-- Questions may be left out, and what an event would be answered is the reply to its line.
use Rattle.std.proofs.Common.{ℕ, ◌≡◌, List, [], ◌∷◌, ◌++◌, Bool, true, false, Option, Some, None, ap, refl, sym}
use Rattle.std.proofs.Common.{if◌then◌else◌, ◌∙◌}
use Rattle.pol_jobs.specs.LineWork.{Line, after_all, line_met, replies}
use Rattle.pol_rights.specs.Rules.{PlainPlantPolicy}
use Rattle.pol_ledger.specs.Work.{BegunLedger}
use Rattle.pol_operate.specs.QuestionLaws.{QuestionsChangeNothing, QuestionsMayBeLeftOut, WouldIsTheReply}
use Rattle.pol_operate.specs.QuestionLaws.{is_question_to, replies_to_others, without_questions}
use Rattle.pol_operate.specs.Work.{Known, operate_work}

-- behind a question nothing else is known
question_after : (policy : Option PlainPlantPolicy) (ledger : Option BegunLedger) (line : Line) →
    is_question_to policy line ≡ true →
    operate_work.after (record { policy = policy; ledger = ledger }) line ≡ record { policy = policy; ledger = ledger }
question_after None ledger line is = absurd cc
question_after (Some policy) ledger line is = rw is refl

-- where this is so of the lines behind one, it is so of all
module _ (known : Known) (line : List ℕ) (lines : List (List ℕ)) where
  abbrev later : Known
  later = operate_work.after known (line_met line)

  abbrev others : List (List ℕ)
  others = without_questions later lines

  left_out : (asked : Bool) → is_question_to known.policy (line_met line) ≡ asked →
      (after_all operate_work later others ≡ after_all operate_work later lines)
      × (replies operate_work later others ≡ replies_to_others later lines) →
      (after_all operate_work known (if asked then others else line ∷ others) ≡ after_all operate_work later lines)
      × (replies operate_work known (if asked then others else line ∷ others)
      ≡ (if asked then replies_to_others later lines
      else operate_work.reply known (line_met line) ++ replies_to_others later lines))
  left_out true is rest =
      let same = question_after known.policy known.ledger (line_met line) is in (
        ap (λ (known : Known). after_all operate_work known others) (sym same) ∙ rest.0,
        ap (λ (known : Known). replies operate_work known others) (sym same) ∙ rest.1,
      )
  left_out false is rest =
      (rest.0, ap (λ (text : List ℕ). operate_work.reply known (line_met line) ++ text) rest.1)

-- so questions may be left out
questions_left_out : QuestionsMayBeLeftOut
questions_left_out known [] = (refl, refl)
questions_left_out known (line ∷ lines) =
    left_out known line lines (is_question_to known.policy (line_met line)) refl
    (questions_left_out (operate_work.after known (line_met line)) lines)

-- what an event would be answered is the reply to its line
would_is_reply : WouldIsTheReply
would_is_reply policy ledger line says some = rw (says, some) refl

-- both
pub questions_are_quiet : QuestionsChangeNothing
questions_are_quiet = record { left_out = questions_left_out; would = would_is_reply }
