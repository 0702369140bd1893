-- What holds of every question to an operated plant.
use Rattle.std.specs.Prelude.{ℕ, ◌≡◌, List, [], ◌∷◌, ◌++◌, Bool, false, Option, Some, None, if◌then◌else◌}
use Rattle.std.specs.List.{list_all}
use Rattle.event_json.specs.Lines.{is_blank_byte}
use Rattle.named_lines.specs.Named.{named_of}
use Rattle.pol_jobs.specs.LineWork.{Line, after_all, line_met, replies}
use Rattle.pol_rights.specs.Rules.{PlainPlantPolicy}
use Rattle.pol_ledger.specs.Work.{BegunLedger}
use Rattle.question_lines.specs.Front.{is_question}
use Rattle.question_lines.specs.Questions.{would}
use Rattle.pol_operate.specs.Questions.{asks, told, would_text}
use Rattle.pol_operate.specs.Work.{Known, operate_work, reply_by}

-- ---- questions may be left out

-- whether a line is a question: one that asks, where a policy is known
abbrev pub is_question_to : Option PlainPlantPolicy → Line → Bool
is_question_to None line = false
is_question_to (Some policy) line = asks line

-- the lines that are no questions, each with its line feed
abbrev pub without_questions : Known → List (List ℕ) → List (List ℕ)
without_questions known [] = []
without_questions known (line ∷ lines) =
    let others = without_questions (operate_work.after known (line_met line)) lines in
    if is_question_to known.policy (line_met line) then others else line ∷ others

-- what is replied to those of the lines that are no questions
abbrev pub replies_to_others : Known → List (List ℕ) → List ℕ
replies_to_others known [] = []
replies_to_others known (line ∷ lines) =
    let others = replies_to_others (operate_work.after known (line_met line)) lines in
    if is_question_to known.policy (line_met line) then others
    else operate_work.reply known (line_met line) ++ others

-- Leaving all questions out leaves out just their replies: what is known behind the lines, so what is kept and what
-- closes the output, is the same, and so is each other reply.
abbrev pub QuestionsMayBeLeftOut : Type 0
QuestionsMayBeLeftOut = (known : Known) (lines : List (List ℕ)) →
    (after_all operate_work known (without_questions known lines) ≡ after_all operate_work known lines)
    × (replies operate_work known (without_questions known lines) ≡ replies_to_others known lines)

-- ---- what an event would be answered

-- A question what an event would be answered gets the reply that its line would get now, whatever the line says: an
-- answer, a denial, or its fault.
abbrev pub WouldIsTheReply : Type 0
WouldIsTheReply = (policy : PlainPlantPolicy) (ledger : Option BegunLedger) (line : List ℕ) →
    is_question line ≡ false → list_all is_blank_byte line ≡ false →
    told policy ledger (would (named_of line)) ≡ would_text (reply_by (Some policy) ledger (Some line))

-- Questions may be left out, and a question what an event would be answered gets the reply to its line.
pub record QuestionsChangeNothing : Type 0 where
  pub left_out : QuestionsMayBeLeftOut
  pub would : WouldIsTheReply
