-- What an event would be answered with is the line that it is answered with once it is asked for.
use Rattle.std.proofs.Common.{ℕ, ◌≡◌, ◌∙◌, List, [], ◌∷◌, ◌++◌, Bool, true, false, Option, Some, None, ap, append-nil, refl, sym}
use Rattle.std.proofs.Common.{if◌then◌else◌}
use Rattle.std.specs.Option.{unwrap_or}
use Rattle.std.specs.Prelude.{is_some, ◌&&◌, option_and_then}
use Rattle.std.specs.Str.{bytes_eq}
use Rattle.chart_core.specs.Roles.{PlainChart}
use Rattle.chart_core.specs.declared.entry.LogEntry.TheVariants.{Start}
use Rattle.mtp_codes.specs.declared.value.Setting.{Setting}
use Rattle.pol_core.specs.Calls.{settings_named}
use Rattle.pol_core.specs.Plants.{plant_history}
use Rattle.pol_events.specs.Events.{PlainEntry, PlainEvent, advance}
use Rattle.pol_events.specs.declared.answer.Answer.{Answer}
use Rattle.pol_events.specs.declared.answer.Answer.TheVariants.{Did}
use Rattle.pol_history.specs.Answers.{answer_of}
use Rattle.pol_history.specs.Batches.{chart_by, chart_of, start_by}
use Rattle.pol_history.specs.Looking.{History, is_accepted, past_of_batch, recipes}
use Rattle.pol_history.specs.Runs.{recorded}
use Rattle.pol_ledger.specs.Items.{PlainAsked}
use Rattle.pol_ledger.specs.Ledgers.{PlainLedger, asked_so_far, begun_by, ledger_state}
use Rattle.pol_ledger.specs.Work.{history_of}
use Rattle.pol_operate.specs.Lines.{admitted}
use Rattle.pol_operate.specs.Saying.{foreseen_text, text_after}
use Rattle.pol_operate.specs.Texts.{advanced_by, settings_told, told_text}
use Rattle.pol_operate.proofs.Runs.{history_more}

-- that a batch goes on leaves its chart
chart_stays : (history : History) (at : ℕ) (batch : List ℕ) (answer : Answer) →
    chart_of (record { event = advance at batch; answer = answer } ∷ history) batch ≡ chart_of history batch
chart_stays history at batch answer = by_kept (bytes_eq batch batch && is_accepted answer)
  where
    past : History
    past = past_of_batch batch history

    entry : PlainEntry
    entry = record { event = advance at batch; answer = answer }

    by_kept : (kept : Bool) →
        chart_by (recipes history) (start_by (if kept then entry ∷ past else past)) ≡ chart_of history batch
    by_kept true = refl
    by_kept false = refl

-- so the settings that an answer is told with are those of before the event
settings_before : (history : History) (event : PlainEvent) (answer : Answer) →
    settings_told (recorded (record { event = event; answer = answer }) history) (advanced_by event) answer
    ≡ settings_told history (advanced_by event) answer
settings_before history (advance at batch) (Did (Start step tag service procedure)) =
    ap (λ (chart : Option PlainChart). unwrap_or (option_and_then (settings_named step) chart) [])
    (chart_stays history at batch (Did (Start step tag service procedure)))
settings_before history (advance at batch) answer = refl
settings_before history event answer = refl

-- where a ledger was begun, an event would be answered with the line that it is answered with
pub would_be_answered : (ledger : PlainLedger) (one : PlainAsked) →
    plant_history ledger.plant ≡ history_of (asked_so_far ledger) → is_some (ledger_state ledger) ≡ true →
    foreseen_text (plant_history ledger.plant) one.event ≡ text_after (ledger_state ledger) (admitted one)
would_be_answered ledger one runs is = by_build ledger.build is
  where
    so_far : List PlainAsked
    so_far = asked_so_far ledger

    history : History
    history = history_of so_far

    by_build : (build : Option (List ℕ)) → is_some (begun_by build so_far) ≡ true →
        foreseen_text (plant_history ledger.plant) one.event ≡ text_after (begun_by build so_far) (admitted one)
    by_build None is = absurd cc
    by_build (Some build) is =
        ap (λ (history : History). foreseen_text history one.event) runs
        ∙ ap (λ (settings : List Setting). told_text settings (answer_of history one.event))
        (sym (ap (λ (later : History). settings_told later (advanced_by one.event) (answer_of history one.event))
        (history_more so_far one) ∙ settings_before history one.event (answer_of history one.event)))

-- before that, nothing is answered
pub nothing_foreseen : (ledger : PlainLedger) (one : PlainAsked) (held : List ℕ) →
    is_some (ledger_state ledger) ≡ false → held ≡ held ++ text_after (ledger_state ledger) (admitted one)
nothing_foreseen ledger one held is = by_build ledger.build is
  where
    by_build : (build : Option (List ℕ)) → is_some (begun_by build (asked_so_far ledger)) ≡ false →
        held ≡ held ++ text_after (begun_by build (asked_so_far ledger)) (admitted one)
    by_build None is = sym (append-nil held)
    by_build (Some build) is = absurd cc
