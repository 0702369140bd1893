-- What the calls that only look find in the tables is what looking back finds.
use Rattle.std.proofs.Common.{◌≡◌, ℕ, Bool, true, false, List, [], ◌∷◌, length, Option, Some, None, is_none, refl, ap}
use Rattle.std.proofs.Common.{sym, ◌∙◌}
use Rattle.std.specs.Prelude.{option_and_then, Ok, if◌then◌else◌}
use Rattle.std.specs.Map.{lookup}
use Rattle.std.specs.Option.{option_or}
use Rattle.std.specs.Str.{bytes_eq}
use Rattle.mtp_codes.specs.Faults.{when, done_unless, first_of}
use Rattle.chart_core.specs.Charts.{plain_chart}
use Rattle.chart_core.specs.declared.next.Next.{Next}
use Rattle.pol_events.specs.Events.{PlainEvent}
use Rattle.pol_events.specs.declared.answer.Rule.{Rule}
use Rattle.pol_events.specs.declared.answer.Rule.TheVariants.{HistoryFull}
use Rattle.pol_history.specs.Answers.{rules, otherwise, first_rule, answer_of, is_full}
use Rattle.pol_history.specs.Batches.{chart_by}
use Rattle.pol_history.specs.Following.{next_of}
use Rattle.pol_history.specs.Looking.{History, recipes}
use Rattle.pol_slots.specs.declared.slot.Slot.{Slot}
use Rattle.pol_table.specs.Rows.{Rows}
use Rattle.pol_runs.specs.Runs.{PlainRun}
use Rattle.pol_core.specs.Batches.{RunsMirror, ComesNext, IsOpenRun}
use Rattle.pol_core.specs.Calls.{open_next, refusal, refused_first, settings_named, settings_of}
use Rattle.pol_core.specs.Seats.{SeatsMirror}
use Rattle.pol_core.specs.Seen.{table_sights}
use Rattle.pol_core.proofs.Judging.{refuse, refused_first_is}
use Rattle.pol_core.proofs.Lasting.{open_outcome}
use Rattle.pol_core.proofs.Stepping.{run_keeps, next_of_is}

-- ---- what comes next

-- an open batch has a next entry
pub open_comes : (history : History) (batch : List ℕ) (rows : Rows Slot) (run : PlainRun)
    (runs : List (List ℕ × PlainRun)) (next : Next) →
    SeatsMirror rows history → RunsMirror runs history → IsOpenRun batch run runs →
    ComesNext (table_sights rows run.binds) next run →
    Some next ≡ open_next history batch
open_comes history batch rows run runs next seats batches open' comes =
    sym (ap (λ outcome. if is_none outcome then next_of history batch else None)
    (open_outcome history batch run runs batches open')
    ∙ next_of_is history batch rows run next seats (run_keeps history batch runs run batches open'.found) comes)

-- ---- the settings of a step

-- a started batch has its chart's steps
pub run_settings : (history : History) (batch name : List ℕ) (run : PlainRun) (runs : List (List ℕ × PlainRun)) →
    RunsMirror runs history →
    lookup (bytes_eq batch) runs ≡ Some run
    → settings_named name (plain_chart run.chart) ≡ settings_of history batch name
run_settings history batch name run runs mirror found =
    let keeps = run_keeps history batch runs run mirror found in
    sym (ap (λ started. option_and_then (settings_named name) (chart_by (recipes history) started)) keeps.started
    ∙ ap (option_and_then (settings_named name)) keeps.charted)

-- ---- the rule that an event would be refused by

-- the fullness of the history, or the first of the event's rules
pub refused_by : (history : History) (event : PlainEvent) (rule : Option Rule) → rule ≡ first_of (rules history event) →
    refusal (otherwise history event) ≡ Ok tt → refused_first (length history) rule ≡ refusal (answer_of history event)
refused_by history event rule is accepted =
    go (is_full history) rule
    ∙ ap (λ rule. refusal (first_rule (when (is_full history) HistoryFull ∷ [])
    (refuse rule (otherwise history event)))) is
    ∙ back (is_full history) (first_is (rules history event))
  where
    go : (full : Bool) (rule : Option Rule) → done_unless (option_or (when full HistoryFull) rule)
        ≡ refusal (first_rule (when full HistoryFull ∷ []) (refuse rule (otherwise history event)))
    go true rule = refl
    go false None = sym accepted
    go false (Some rule) = refl

    first_is : (rules : List (Option Rule)) → refuse (first_of rules) (otherwise history event)
        ≡ first_rule rules (otherwise history event)
    first_is rules = sym (refused_first_is rules (otherwise history event))

    back : (full : Bool) → refuse (first_of (rules history event)) (otherwise history event)
        ≡ first_rule (rules history event) (otherwise history event) →
        refusal (first_rule (when full HistoryFull ∷ []) (refuse (first_of (rules history event))
        (otherwise history event)))
        ≡ refusal (first_rule (when full HistoryFull ∷ rules history event) (otherwise history event))
    back true same = refl
    back false same = ap refusal same
