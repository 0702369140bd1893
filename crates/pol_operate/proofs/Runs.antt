-- The history behind lines is the run of the old events and of those that the lines ask for.
use Rattle.std.proofs.Common.{ℕ, ◌≡◌, ◌∙◌, List, [], ◌∷◌, ◌++◌, Bool, true, false, Option, Some, None, ap, refl}
use Rattle.std.proofs.Common.{sym, if◌then◌else◌}
use Rattle.std.proofs.lemmas.List.{map-append}
use Rattle.named_lines.specs.Named.{PlainNamed}
use Rattle.pol_history.specs.Answers.{answer_of}
use Rattle.pol_history.specs.Looking.{History}
use Rattle.pol_history.specs.Runs.{entry_of, history_after, is_recorded, recorded}
use Rattle.pol_jobs.specs.LineWork.{Line, after_all, line_met}
use Rattle.pol_policy.specs.declared.verdict.Verdict.{Verdict}
use Rattle.pol_policy.specs.declared.verdict.Verdict.TheVariants.{Allowed, Denied}
use Rattle.pol_record.proofs.Appending.{history_after_append}
use Rattle.pol_replay.specs.Meanings.{LineMeaning, at_fault, nothing, says}
use Rattle.pol_rights.specs.Rules.{PlainPlantPolicy}
use Rattle.pol_ledger.specs.Items.{PlainAsked}
use Rattle.pol_ledger.specs.Work.{BegunLedger, asked_after, history_of}
use Rattle.pol_operate.specs.Asked.{OperatedIsRun, asked_by_line, asked_by_lines, asked_of, asked_saying, events_asked}
use Rattle.pol_operate.specs.Lines.{asked_by, by_verdict, verdict_under}
use Rattle.pol_operate.specs.Texts.{history_in}
use Rattle.pol_operate.specs.Saying.{ledger_met, ledger_with}
use Rattle.pol_operate.specs.Work.{Known, ledger_by, operate_work, said_by}

-- the ledger is one that was begun, whose history goes on from this one by these events
pub record GoesOnBy (history : History) (all : List PlainAsked) (later : Option BegunLedger) : Type 0 where
  pub ledger : BegunLedger
  pub is : later ≡ Some ledger
  pub runs : history_of ledger.so_far ≡ history_after history (events_asked all)

-- where nothing was asked
stays : (ledger : BegunLedger) → GoesOnBy (history_of ledger.so_far) [] (Some ledger)
stays ledger = record { ledger = ledger; is = refl; runs = refl }

-- where an event was asked for
goes_on : (ledger : BegunLedger) (one : PlainAsked) → GoesOnBy (history_of ledger.so_far) (one ∷ [])
    (Some (record { build = ledger.build; so_far = asked_after ledger.so_far one }))
goes_on ledger one = record {
  ledger = record { build = ledger.build; so_far = asked_after ledger.so_far one };
  is = refl;
  runs = by_kept (is_recorded (answer_of (history_of ledger.so_far) one.event)) refl;
}
  where
    so_far : List PlainAsked
    so_far = ledger.so_far

    by_kept : (kept : Bool) → is_recorded (answer_of (history_of so_far) one.event) ≡ kept →
        history_of (asked_after so_far one) ≡ history_after (history_of so_far) (one.event ∷ [])
    by_kept true is =
        ap (λ (b : Bool). history_of (if b then so_far ++ one ∷ [] else so_far)) is
        ∙ ap (history_after []) (map-append (λ (each : PlainAsked). each.event) so_far (one ∷ []))
        ∙ history_after_append [] (events_asked so_far) (one.event ∷ [])
    by_kept false is =
        ap (λ (b : Bool). history_of (if b then so_far ++ one ∷ [] else so_far)) is ∙ rw is refl

-- so the history behind an event that was asked for is the one before it, with its entry
pub history_more : (so_far : List PlainAsked) (one : PlainAsked) →
    history_of (asked_after so_far one) ≡ recorded (entry_of (history_of so_far) one.event) (history_of so_far)
unfolding goes_on
history_more so_far one = (goes_on (record { build = []; so_far = so_far }) one).runs

-- behind what a line says
goes_said : (ledger : BegunLedger) (said : PlainNamed) (verdict : Option Verdict) →
    GoesOnBy (history_of ledger.so_far) (asked_of (by_verdict said verdict))
    (ledger_with (Some ledger) (by_verdict said verdict))
goes_said ledger said None = goes_on ledger (asked_by said)
goes_said ledger said (Some (Denied rule)) = stays ledger
goes_said ledger said (Some (Allowed name)) = goes_on ledger (asked_by said)

-- behind a line
goes_line : (policy : Option PlainPlantPolicy) (ledger : BegunLedger) (line : Line) →
    GoesOnBy (history_of ledger.so_far) (asked_by_line policy line) (ledger_by policy (Some ledger) line)
goes_line None ledger line = stays ledger
goes_line (Some policy) ledger line = by_meaning (said_by line)
  where
    by_meaning : (meaning : LineMeaning PlainNamed) → GoesOnBy (history_of ledger.so_far)
        (asked_saying policy meaning) (ledger_met (Some policy) (Some ledger) meaning)
    by_meaning nothing = stays ledger
    by_meaning (at_fault fault) = stays ledger
    by_meaning (says said) = goes_said ledger said (verdict_under (Some policy) said)

-- behind lines
goes_lines : (policy : Option PlainPlantPolicy) (ledger : BegunLedger) (lines : List (List ℕ)) →
    history_in (after_all operate_work (record { policy = policy; ledger = Some ledger }) lines).ledger
    ≡ history_after (history_of ledger.so_far) (events_asked (asked_by_lines policy lines))
goes_lines policy ledger [] = refl
goes_lines policy ledger (line ∷ lines) =
    let known : Known = record { policy = policy; ledger = Some ledger } in
    let one = goes_line policy ledger (line_met line) in
    let later = operate_work.after known (line_met line) in
    let asks = asked_by_line policy (line_met line) in
    let others = asked_by_lines later.policy lines in
    ap (λ (ledger : Option BegunLedger). history_in (after_all operate_work
    (record { policy = later.policy; ledger = ledger }) lines).ledger) one.is
    ∙ goes_lines later.policy one.ledger lines
    ∙ ap (λ (history : History). history_after history (events_asked others)) one.runs
    ∙ sym (history_after_append (history_of ledger.so_far) (events_asked asks) (events_asked others))
    ∙ ap (history_after (history_of ledger.so_far))
    (sym (map-append (λ (each : PlainAsked). each.event) asks others))

-- the run of the old and the new events
pub operated_is_run : OperatedIsRun
operated_is_run ledger lines =
    let others = asked_by_lines None lines in
    goes_lines None ledger lines
    ∙ sym (history_after_append [] (events_asked ledger.so_far) (events_asked others))
    ∙ ap (history_after []) (sym (map-append (λ (each : PlainAsked). each.event) ledger.so_far others))
