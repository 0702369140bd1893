-- What a guard does with each line, and at the end.
use Rattle.std.specs.Prelude.{ℕ, ◌≡◌, List, [], IsTrue, Ok, Err, if◌then◌else◌}
use Rattle.mtp_json.specs.ReadResult.{ReadResult, here}
use Rattle.mtp_json.specs.declared.fault.FaultKind.TheVariants.{Missing}
use Rattle.mtp_json.specs.declared.fault.JsonFault.{JsonFault}
use Rattle.pol_history.specs.Answers.{answer_of}
use Rattle.pol_history.specs.Looking.{History}
use Rattle.pol_history.specs.Runs.{entry_of, recorded}
use Rattle.pol_jobs.specs.LineWork.{Line, LineWork}
use Rattle.pol_policy.specs.Policies.{PlainPolicy}
use Rattle.pol_record.specs.Lines.{closing_text}
use Rattle.pol_record.specs.Texts.{answer_text, fault_text}
use Rattle.pol_replay.specs.Meanings.{is_some_line}
use Rattle.pol_guard.specs.Denials.{denial_text}
use Rattle.pol_guard.specs.Guarded.{policy_said}
use Rattle.pol_guard.specs.Lines.{GuardedLine, faulty, denied, admitted, guarded_line}

-- what a guard knows between two lines: all were blank; or what the first said that wasn't, and the history since then
pub data Known : Type 0 where
  waiting : Known
  begun : (said : ReadResult PlainPolicy) (history : History) → Known

-- the output line that comes of a line after a history
abbrev pub text_after : History → GuardedLine → List ℕ
text_after history (faulty fault) = fault_text fault
text_after history (denied rule) = denial_text rule
text_after history (admitted event) = answer_text (answer_of history event)

-- the history after a line
abbrev pub history_with : History → GuardedLine → History
history_with history (faulty fault) = history
history_with history (denied rule) = history
history_with history (admitted event) = recorded (entry_of history event) history

-- what is replied to a line that isn't blank: nothing to the policy
abbrev pub reply_some : Known → Line → List ℕ
reply_some waiting line = []
reply_some (begun (Ok policy) history) line = text_after history (guarded_line policy line)
reply_some (begun (Err fault) history) line = []

-- what is known after a line that isn't blank
abbrev pub after_some : Known → Line → Known
after_some waiting line = begun (policy_said line) []
after_some (begun (Ok policy) history) line = begun (Ok policy) (history_with history (guarded_line policy line))
after_some (begun (Err fault) history) line = begun (Err fault) history

-- a line that isn't blank is refused where it should say the policy, and has this fault
abbrev pub RefusesSome : Known → Line → JsonFault → Type 0
RefusesSome waiting line fault = policy_said line ≡ Err fault
RefusesSome (begun said history) line fault = ⊥

-- what was said of the policy
abbrev pub said_in : Known → ReadResult PlainPolicy
said_in waiting = here (Err Missing)
said_in (begun said history) = said

-- the history since the policy was said
abbrev pub history_in : Known → History
history_in waiting = []
history_in (begun said history) = history

-- what a guard does with each line, of which blank ones do nothing, and at the end
abbrev pub guard_work : LineWork Known JsonFault
guard_work =
    record {
      reply = λ known line. if is_some_line line then reply_some known line else [];
      after = λ known line. if is_some_line line then after_some known line else known;
      Closing = λ known text. text ≡ closing_text (history_in known);
      Refuses = λ known line fault. IsTrue (is_some_line line) × RefusesSome known line fault;
      RefusesEnd = λ known fault. said_in known ≡ Err fault;
    }
