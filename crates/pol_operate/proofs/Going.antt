-- What is known behind a line, and what is asked of the ledger by it.
use Rattle.std.proofs.Common.{◌≡◌, ◌∙◌, ◌++◌, ℕ, List, Option, Some, None, ap, false, refl, true}
use Rattle.std.specs.Option.{option_map}
use Rattle.std.specs.Prelude.{IfErr, OnOk, Result, Ok, Err}
use Rattle.kept_jobs.specs.Keeping.{Admits}
use Rattle.mtp_json.specs.declared.fault.JsonFault.{JsonFault}
use Rattle.named_lines.specs.Named.{PlainNamed, named_of}
use Rattle.pol_jobs.specs.LineWork.{Line}
use Rattle.pol_jobs.specs.declared.stop.Stop.{Stop}
use Rattle.pol_kept.specs.Keeping.{KeptState}
use Rattle.pol_replay.specs.Meanings.{LineMeaning, meaning_met}
use Rattle.pol_rights.specs.PlainPlantPolicy.{plain_plant_policy}
use Rattle.pol_rights.specs.declared.plant_policy.PlantPolicy.{PlantPolicy}
use Rattle.pol_ledger.specs.Ledgers.{PlainLedger, ledger_state}
use Rattle.pol_ledger.specs.Work.{BegunLedger, items_of, ledger_work}
use Rattle.pol_operate.specs.Answered.{IsAnswered, IsHalted}
use Rattle.pol_operate.specs.Questions.{asks, told_by}
use Rattle.pol_operate.specs.Saying.{ledger_met, text_met}
use Rattle.pol_operate.specs.Work.{Known, ledger_by, operate_work, policy_by, reply_by}
use Rattle.pol_operate.specs.declared.fault.DiskFailed.{DiskFailed}

-- whether a line was answered or not, the policy is the same, and at most what the line asks was asked
pub answered_or_halted : {D : Type 0} (policy policy' : Option PlantPolicy) (store store' : KeptState PlainLedger D)
    (held holds : List ℕ) (meaning : LineMeaning PlainNamed) (result : Result (Unit {0}) (Stop JsonFault DiskFailed)) →
    OnOk result ((policy' ≡ policy) × IsAnswered policy store store' held holds meaning) →
    IfErr result (λ stop. (policy' ≡ policy) × IsHalted policy store store' meaning stop) →
    (policy' ≡ policy) × Admits ledger_work ledger_state store store'
    (items_of (ledger_met (option_map plain_plant_policy policy) (ledger_state store.chronicle) meaning))
answered_or_halted policy policy' store store' held holds meaning (Ok done) answered halted =
    (answered.0, answered.1.admits)
answered_or_halted policy policy' store store' held holds meaning (Err stop) answered halted =
    (halted.0, halted.1.admits)

-- what holds anyway holds where all is well
pub on_ok_anyway : {E P : Type 0} (result : Result (Unit {0}) E) → P → OnOk result P
on_ok_anyway (Ok done) holds = holds
on_ok_anyway (Err fault) holds = tt

-- a text that is put behind what is held is any text that is the same
pub put_alike : {E : Type 0} (result : Result (Unit {0}) E) (held holds text text' : List ℕ) → text ≡ text' →
    OnOk result (holds ≡ held ++ text) → OnOk result (holds ≡ held ++ text')
put_alike (Ok done) held holds text text' same put = put ∙ ap (λ (text : List ℕ). held ++ text) same
put_alike (Err fault) held holds text text' same put = tt

-- what a line brings is replied to it
pub text_answered : {D : Type 0} (policy policy' : Option PlantPolicy) (store store' : KeptState PlainLedger D)
    (held holds : List ℕ) (meaning : LineMeaning PlainNamed) (result : Result (Unit {0}) (Stop JsonFault DiskFailed))
    (text : List ℕ) → text_met (option_map plain_plant_policy policy) (ledger_state store.chronicle) meaning ≡ text →
    OnOk result ((policy' ≡ policy) × IsAnswered policy store store' held holds meaning) →
    OnOk result (holds ≡ held ++ text)
text_answered policy policy' store store' held holds meaning (Ok done) text same answered =
    answered.1.said ∙ ap (λ (text : List ℕ). held ++ text) same
text_answered policy policy' store store' held holds meaning (Err stop) text same answered = tt

-- and it leaves the ledger so
pub ledger_answered : {D : Type 0} (policy policy' : Option PlantPolicy) (store store' : KeptState PlainLedger D)
    (held holds : List ℕ) (meaning : LineMeaning PlainNamed) (result : Result (Unit {0}) (Stop JsonFault DiskFailed))
    (ledger : Option BegunLedger) →
    ledger_met (option_map plain_plant_policy policy) (ledger_state store.chronicle) meaning ≡ ledger →
    OnOk result ((policy' ≡ policy) × IsAnswered policy store store' held holds meaning) →
    OnOk result (ledger_state store'.chronicle ≡ ledger)
ledger_answered policy policy' store store' held holds meaning (Ok done) ledger same answered =
    answered.1.ledger ∙ same
ledger_answered policy policy' store store' held holds meaning (Err stop) ledger same answered = tt

-- what is known, by these two
abbrev pub knows : Option PlantPolicy → Option BegunLedger → Known
knows policy ledger = record { policy = option_map plain_plant_policy policy; ledger = ledger }

-- behind a policy, the ledger is the one that a line leaves by what it says, where it doesn't ask
pub ledger_some : (policy : Option PlantPolicy) (one : PlantPolicy) (ledger : Option BegunLedger) (line : Line) →
    policy ≡ Some one → asks line ≡ false →
    ledger_met (option_map plain_plant_policy policy) ledger (meaning_met named_of line)
    ≡ ledger_by (option_map plain_plant_policy policy) ledger line
ledger_some policy one ledger line is says = rw (is, says) refl

-- and what is replied is what that brings
pub reply_some : (policy : Option PlantPolicy) (one : PlantPolicy) (ledger : Option BegunLedger) (line : Line) →
    policy ≡ Some one → asks line ≡ false →
    text_met (option_map plain_plant_policy policy) ledger (meaning_met named_of line)
    ≡ reply_by (option_map plain_plant_policy policy) ledger line
reply_some policy one ledger line is says = rw (is, says) refl

-- where it asks, the reply is what is told to it
pub reply_asked : (policy : Option PlantPolicy) (one : PlantPolicy) (ledger : Option BegunLedger) (line : Line) →
    policy ≡ Some one → asks line ≡ true →
    told_by (option_map plain_plant_policy policy) ledger line
    ≡ reply_by (option_map plain_plant_policy policy) ledger line
reply_asked policy one ledger line is asked = rw (is, asked) refl

-- and the ledger stays
pub ledger_asked : (policy : Option PlantPolicy) (one : PlantPolicy) (ledger : Option BegunLedger) (line : Line) →
    policy ≡ Some one → asks line ≡ true → ledger ≡ ledger_by (option_map plain_plant_policy policy) ledger line
ledger_asked policy one ledger line is asked = rw (is, asked) refl

-- and the policy stays
policy_some : (policy : Option PlantPolicy) (one : PlantPolicy) (line : Line) → policy ≡ Some one →
    option_map plain_plant_policy policy ≡ policy_by (option_map plain_plant_policy policy) line
policy_some policy one line is = rw is refl

-- so this is known behind it
pub after_some : (policy policy' : Option PlantPolicy) (one : PlantPolicy) (ledger ledger' : Option BegunLedger)
    (line : Line) → policy ≡ Some one → policy' ≡ policy →
    ledger' ≡ ledger_by (option_map plain_plant_policy policy) ledger line →
    knows policy' ledger' ≡ operate_work.after (knows policy ledger) line
after_some policy policy' one ledger ledger' line is same leaves =
    λ i. record {
      policy = (ap (option_map plain_plant_policy) same ∙ policy_some policy one line is) i;
      ledger = leaves i;
    }

-- before it, the policy is the one that the line says, and the ledger stays
pub after_none : (policy policy' : Option PlantPolicy) (ledger ledger' : Option BegunLedger) (line : Line) →
    policy ≡ None → option_map plain_plant_policy policy' ≡ policy_by None line → ledger' ≡ ledger →
    knows policy' ledger' ≡ operate_work.after (knows policy ledger) line
after_none policy policy' ledger ledger' line is said same =
    rw is (λ i. record { policy = said i; ledger = same i })
