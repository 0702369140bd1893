-- What the job on an operated plant does with each line, and at the end.
use Rattle.std.specs.Prelude.{ℕ, ◌≡◌, List, [], ◌++◌, IsTrue, Option, Some, None, Err, if◌then◌else◌}
use Rattle.std.specs.Result.{result_ok}
use Rattle.mtp_json.specs.ReadResult.{ReadResult, here}
use Rattle.mtp_json.specs.declared.fault.FaultKind.TheVariants.{Missing, TooLong}
use Rattle.mtp_json.specs.declared.fault.JsonFault.{JsonFault}
use Rattle.named_lines.specs.Named.{PlainNamed, named_of}
use Rattle.pol_jobs.specs.LineWork.{Line, LineWork}
use Rattle.pol_record.specs.Texts.{batches_text}
use Rattle.pol_replay.specs.Meanings.{LineMeaning, is_some_line, meaning_met, nothing}
use Rattle.pol_rights.specs.Form.{plant_policy_on}
use Rattle.pol_rights.specs.Rules.{PlainPlantPolicy}
use Rattle.pol_ledger.specs.Work.{BegunLedger}
use Rattle.pol_operate.specs.Questions.{asks, told_to}
use Rattle.pol_operate.specs.Saying.{ledger_met, text_met}
use Rattle.pol_operate.specs.Texts.{history_in, kept_text, sealed_text}

-- what the job knows between two lines: the policy, once a line said it, and the ledger
pub record Known : Type 0 where
  pub policy : Option PlainPlantPolicy
  pub ledger : Option BegunLedger

-- ---- the first line that isn't blank

-- the policy that a line says, or its first fault; a line that is too long has that fault
abbrev pub policy_said : Line → ReadResult PlainPlantPolicy
policy_said None = here (Err TooLong)
policy_said (Some text) = plant_policy_on text

-- ---- the lines behind the policy

-- what a line says of an event; a question says nothing of any
abbrev pub said_by : Line → LineMeaning PlainNamed
said_by line = if asks line then nothing else meaning_met named_of line

-- what is replied to a line behind the policy: to a question its reply, and else what its saying brings
abbrev pub operated_reply : PlainPlantPolicy → Option BegunLedger → Line → List ℕ
operated_reply policy ledger line =
    if asks line then told_to policy ledger line else text_met (Some policy) ledger (meaning_met named_of line)

-- ---- each line, and the end

-- what is replied to a line that is to say the policy: how much is kept, where it says one
abbrev pub kept_reply : Option PlainPlantPolicy → Option BegunLedger → List ℕ
kept_reply None ledger = []
kept_reply (Some policy) ledger = kept_text ledger

-- the policy that is known after a line
abbrev pub policy_by : Option PlainPlantPolicy → Line → Option PlainPlantPolicy
policy_by None line = if is_some_line line then result_ok (policy_said line) else None
policy_by (Some policy) line = Some policy

-- what is replied to a line
abbrev pub reply_by : Option PlainPlantPolicy → Option BegunLedger → Line → List ℕ
reply_by None ledger line = kept_reply (policy_by None line) ledger
reply_by (Some policy) ledger line = operated_reply policy ledger line

-- the ledger after a line
abbrev pub ledger_by : Option PlainPlantPolicy → Option BegunLedger → Line → Option BegunLedger
ledger_by None ledger line = ledger
ledger_by (Some policy) ledger line = ledger_met (Some policy) ledger (said_by line)

-- a line is refused where it should say the policy, and has this fault
abbrev pub RefusesBy : Option PlainPlantPolicy → Line → JsonFault → Type 0
RefusesBy None line fault = IsTrue (is_some_line line) × (policy_said line ≡ Err fault)
RefusesBy (Some policy) line fault = ⊥

-- an input that says no policy is refused at its end
abbrev pub RefusesEndBy : Option PlainPlantPolicy → JsonFault → Type 0
RefusesEndBy None fault = fault ≡ record { kind = Missing; path = [] }
RefusesEndBy (Some policy) fault = ⊥

-- what ends the output: the line of each batch, and the end line with the sum
abbrev pub ending_text : Option BegunLedger → List ℕ
ending_text ledger = batches_text (history_in ledger) ++ sealed_text ledger

-- what the job does with each line, and at the end
abbrev pub operate_work : LineWork Known JsonFault
operate_work =
    record {
      reply = λ known line. reply_by known.policy known.ledger line;
      after = λ known line. record {
        policy = policy_by known.policy line;
        ledger = ledger_by known.policy known.ledger line;
      };
      Closing = λ known text. text ≡ ending_text known.ledger;
      Refuses = λ known line fault. RefusesBy known.policy line fault;
      RefusesEnd = λ known fault. RefusesEndBy known.policy fault;
    }
