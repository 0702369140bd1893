-- Answers and entries are known by their lines: what is written of each is read as it.
use Rattle.std.specs.Prelude.{◌≡◌, true, Ok}
use Rattle.serde_json.specs.Written.{compact_text}
use Rattle.mtp_json.specs.Parse.{json_of}
use Rattle.pol_events.specs.Events.{PlainEntry}
use Rattle.pol_events.specs.declared.answer.Answer.{Answer}
use Rattle.pol_record.specs.Exact.{IsExact, IsWritten}
use Rattle.pol_record.specs.Ranges.{is_in_range}
use Rattle.pol_record.specs.Texts.{answer_data}
use Rattle.pol_entries.specs.Answers.{answer_form}
use Rattle.pol_retold.specs.Retold.{IsRetold}

-- What is written of an entry is read as that entry, where its answer is one that a program holds, and its event is
-- written.
abbrev pub EntriesAreRetold : Type 0
EntriesAreRetold =
    (entry : PlainEntry) → is_in_range entry.answer ≡ true → IsWritten entry.event → IsRetold entry

-- What is written of an answer is exact, where it is one that a program holds.
abbrev pub AnswersAreExact : Type 0
AnswersAreExact = (answer : Answer) → is_in_range answer ≡ true → IsExact (answer_data answer)

-- the value that is written of an answer is read as that answer, its text is read as that value, and no other answer
-- that a program holds has this value
pub record IsToldApart (answer : Answer) : Type 0 where
  pub text : json_of (compact_text (answer_data answer)) ≡ Ok (answer_data answer)
  pub value : answer_form (answer_data answer) ≡ Ok answer
  pub alone : (other : Answer) → is_in_range other ≡ true → answer_data other ≡ answer_data answer → other ≡ answer

-- Each answer that a program holds is told apart by its line.
abbrev pub AnswersAreRetold : Type 0
AnswersAreRetold = (answer : Answer) → is_in_range answer ≡ true → IsToldApart answer
