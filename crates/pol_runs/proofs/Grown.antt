-- What a log says once it has one more entry at its end.
use Rattle.std.proofs.Common.{◌≡◌, Bool, true, false, List, [], ◌∷◌, ◌++◌, Option, Some, None, is_some, refl, ap, sym}
use Rattle.std.proofs.Common.{◌∙◌}
use Rattle.std.specs.Prelude.{ℕ, ◌||◌, unwrap_or}
use Rattle.std.specs.List.{list_any}
use Rattle.std.proofs.Math.Bool.{or-false}
use Rattle.chart_core.specs.Active.{Phase, or_earlier, last_of, phase_by, or_idle, is_running, is_active}
use Rattle.chart_core.specs.Entries.{chart_entry}
use Rattle.chart_core.proofs.Latest.{last_pushed}
use Rattle.chart_core.specs.Trees.{Placed}
use Rattle.chart_core.specs.declared.entry.LogEntry.{LogEntry}
use Rattle.chart_core.specs.declared.entry.LogEntry.TheVariants.{Broke, StopAsked}
use Rattle.chart_cursor.specs.Logs.{is_broke, is_stop_asked, holding_by, was_held}
use Rattle.chart_core.specs.Roles.{PlainChart}
use Rattle.chart_core.specs.declared.entry.LogEntry.TheVariants.{Hold, Unhold}
use Rattle.chart_core.specs.declared.next.Next.TheVariants.{Did}
use Rattle.mtp_codes.specs.Names.{same_name}
use Rattle.pol_runs.specs.Holds.{PlainHolds, AreAsked, AreHeld, Moves, is_hold}
use Rattle.pol_runs.specs.Logs.{asked_after}

-- some entry passes a test, where one of the log or the new one does
pub any_pushed : {A : Type 0} (test : A → Bool) (log : List A) (entry : A) →
    list_any test (log ++ entry ∷ []) ≡ list_any test log || test entry
any_pushed test [] entry = or-false (test entry)
any_pushed test (first ∷ log) entry = go (test first) (any_pushed test log entry)
  where
    go : (passes : Bool) → list_any test (log ++ entry ∷ []) ≡ list_any test log || test entry →
        passes || list_any test (log ++ entry ∷ []) ≡ (passes || list_any test log) || test entry
    go true rest = refl
    go false rest = rest

-- an entry that doesn't pass changes nothing
pub any_silent : {A : Type 0} (test : A → Bool) (log : List A) (entry : A) → test entry ≡ false →
    list_any test (log ++ entry ∷ []) ≡ list_any test log
any_silent test log entry silent =
    any_pushed test log entry ∙ ap (λ said. list_any test log || said) silent ∙ or-false (list_any test log)

-- an entry of the chart's run says neither that the batch broke nor that it was to be stopped
pub run_quiet : (entry : LogEntry) → is_some (chart_entry entry) ≡ true →
    (is_broke entry ≡ false) × (is_stop_asked entry ≡ false)
run_quiet (Broke step state) of_run = cc
run_quiet StopAsked of_run = cc
run_quiet _ of_run = (refl, refl)

-- whether a step is active after one more entry, by what this says of it and whether it was active
abbrev pub active_by : Option Phase → Bool → Bool
active_by None before = before
active_by (Some phase) before = is_running phase

-- and so after the log with the entry
pub active_pushed : (log : List LogEntry) (entry : LogEntry) (placed : Placed) →
    is_active (log ++ entry ∷ []) placed ≡ active_by (phase_by placed.step.name entry) (is_active log placed)
active_pushed log entry placed =
    ap (λ found. is_running (or_idle found)) (last_pushed (phase_by placed.step.name) log entry)
    ∙ go (phase_by placed.step.name entry)
  where
    go : (said : Option Phase) →
        is_running (or_idle (or_earlier said (last_of (phase_by placed.step.name) log)))
        ≡ active_by said (is_active log placed)
    go None = refl
    go (Some phase) = refl

-- whether a step is held after one more entry
pub held_pushed : (log : List LogEntry) (entry : LogEntry) (name : List ℕ) →
    was_held (log ++ entry ∷ []) name ≡ unwrap_or (holding_by name entry) (was_held log name)
held_pushed log entry name =
    ap (λ found. unwrap_or found false) (last_pushed (holding_by name) log entry) ∙ go (holding_by name entry)
  where
    go : (said : Option Bool) →
        unwrap_or (or_earlier said (last_of (holding_by name) log)) false ≡ unwrap_or said (was_held log name)
    go None = refl
    go (Some held) = refl

-- flags that have moved as the entry says tell which steps are held after it
pub held_moves : (chart : PlainChart) (log : List LogEntry) (entry : LogEntry) (old new : PlainHolds) →
    Moves chart entry old new → AreHeld chart old log → AreHeld chart new (log ++ entry ∷ [])
held_moves chart log entry old new moves held placed inside =
    held_pushed log entry placed.step.name
    ∙ ap (unwrap_or (holding_by placed.step.name entry)) (held placed inside)
    ∙ sym (moves.held placed inside)

-- and which were asked to hold
pub asked_moves : (chart : PlainChart) (asked : List (List ℕ)) (entry : LogEntry) (old new : PlainHolds) →
    Moves chart entry old new → AreAsked chart old asked → AreAsked chart new (asked_after (Did entry) asked)
asked_moves chart asked (Hold step tag service) old new moves are placed inside =
    ap (λ among. same_name step placed.step.name || among) (are placed inside) ∙ sym (moves.asked placed inside)
asked_moves chart asked _ old new moves are placed inside = are placed inside ∙ sym (moves.asked placed inside)

-- an entry that holds or unholds a step says nothing else
pub hold_quiet : (entry : LogEntry) → is_hold entry ≡ true →
    (is_some (chart_entry entry) ≡ false) × ((name : List ℕ) → phase_by name entry ≡ None)
    × (is_broke entry ≡ false) × (is_stop_asked entry ≡ false)
hold_quiet (Hold step tag service) holds = (refl, (λ name. refl), refl, refl)
hold_quiet (Unhold step tag service) holds = (refl, (λ name. refl), refl, refl)
hold_quiet _ holds = cc
