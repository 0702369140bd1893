-- Where the next entry of a batch comes from.
use Rattle.std.proofs.Common.{◌≡◌, ℕ, Bool, true, false, List, [], ◌∷◌, Option, Some, None, refl, ap, sym, ◌∙◌}
use Rattle.std.specs.Prelude.{◌||◌, is_none, option_map, option_and_then, if◌then◌else◌}
use Rattle.std.specs.Option.{option_or}
use Rattle.mtp_codes.specs.declared.command.Command.TheVariants as command
use Rattle.mtp_codes.specs.declared.mode.Forbid.{Forbid}
use Rattle.mtp_codes.specs.declared.mode.Speaker.TheVariants.{Recipe}
use Rattle.mtp_codes.specs.declared.state.State.{State}
use Rattle.mtp_modes.specs.Permission.{forbidden_by}
use Rattle.mtp_modes.specs.declared.view.ServiceView.{ServiceView}
use Rattle.chart_core.specs.Roles.{PlainChart}
use Rattle.chart_core.specs.Trees.{PlainStep}
use Rattle.chart_core.specs.declared.entry.LogEntry.{LogEntry}
use Rattle.chart_core.specs.declared.entry.LogEntry.TheVariants.{Stop, Broke, Left}
use Rattle.chart_core.specs.declared.next.Next.TheVariants.{Did, Waiting, Closed}
use Rattle.chart_core.specs.declared.why.Why.TheVariants as why
use Rattle.chart_core.specs.declared.next.Next.{Next}
use Rattle.chart_core.specs.declared.next.Outcome.TheVariants.{Completed}
use Rattle.chart_cursor.specs.Next.{next_after}
use Rattle.chart_cursor.specs.Sights.{Sights, tag_of}
use Rattle.chart_cursor.specs.declared.next.CursorNext.{CursorNext}
use Rattle.chart_cursor.specs.declared.next.CursorNext.TheVariants.{Entry, Wait, Whole}
use Rattle.chart_cursor.specs.declared.sight.Sight.{Sight}
use Rattle.chart_cursor.specs.declared.sight.Sight.TheVariants as sight
use Rattle.chart_cursor.specs.Logs.{chart_entries, active, has_broken, was_stopped}
use Rattle.chart_cursor.specs.NextEntry.{stop_step, stop_next, is_broken_state, broken_step, first_broken, first_hold}
use Rattle.chart_cursor.specs.NextEntry.{unasked, owed, first_unhold, unless_whole, run_next, did_or, next_by}
use Rattle.chart_cursor.specs.Freezing.{Freezing, thawed, waiting, holding}
use Rattle.chart_cursor.proofs.HoldSources.{IsHold, IsUnhold, hold_from, unhold_from}
use Rattle.pol_events.specs.Bound.{given}
use Rattle.pol_history.specs.Looking.{History, past, past_of_batch, recipes}
use Rattle.pol_history.specs.Batches.{Started, start_of, chart_named, freezing_of, log_of}
use Rattle.pol_history.specs.Following.{sights_by, next_of_started, next_of}

-- where an entry comes from that a batch does next: it holds or unholds the service of a step, stops a step or leaves
-- it, says that a step broke, or goes on in the run of the chart
pub data ComesFrom (chart : PlainChart) (log : List LogEntry) (seen : Sights) (entry : LogEntry) : Type 0 where
  stops : (step : PlainStep) (view : ServiceView) → seen.view step.role step.service ≡ sight.Is view
      → forbidden_by view Recipe command.Stop ≡ None →
      entry ≡ Stop step.name (tag_of seen step.role) step.service → ComesFrom chart log seen entry
  leaves : (name : List ℕ) (state : State) → entry ≡ Left name state → ComesFrom chart log seen entry
  breaks : (name : List ℕ) (state : State) → entry ≡ Broke name state → ComesFrom chart log seen entry
  holds : IsHold seen entry → ComesFrom chart log seen entry
  unholds : IsUnhold seen entry → ComesFrom chart log seen entry
  runs : next_after chart (chart_entries log) seen ≡ Entry entry → ComesFrom chart log seen entry

-- two entries that are the same answer are the same entry
same_did : (one other : LogEntry) → Did one ≡ Did other → other ≡ one
same_did one other is = cc

-- the stop of a step comes from what is seen of its service
stop_from : (chart : PlainChart) (log : List LogEntry) (seen : Sights) (entry : LogEntry) (step : PlainStep)
    (found : Sight) → seen.view step.role step.service ≡ found →
    stop_step step.name step.service (tag_of seen step.role) found ≡ Did entry → ComesFrom chart log seen entry
stop_from chart log seen entry step sight.Away at is = cc
stop_from chart log seen entry step sight.Unreported at is = cc
stop_from chart log seen entry step (sight.Is view) at is = go (forbidden_by view Recipe command.Stop) refl is
  where
    go : (reason : Option Forbid) → forbidden_by view Recipe command.Stop ≡ reason →
        (if is_none reason then Did (Stop step.name (tag_of seen step.role) step.service) else Did
        (Left step.name view.control.state)) ≡ Did entry →
        ComesFrom chart log seen entry
    go None free is = stops step view at free (same_did _ entry is)
    go (Some reason) free is = leaves step.name view.control.state (same_did _ entry is)

-- and so does the first stop of some steps
stops_from : (chart : PlainChart) (log : List LogEntry) (seen : Sights) (entry : LogEntry) (broken : Bool)
    (steps : List PlainStep) →
    stop_next seen broken steps ≡ Did entry → ComesFrom chart log seen entry
stops_from chart log seen entry broken [] is = cc
stops_from chart log seen entry broken (step ∷ steps) is = stop_from chart log seen entry step
    (seen.view step.role step.service) refl is

-- what a batch says that a step broke is Broke
broken_one : (step : PlainStep) (found : Sight) (entry : LogEntry) → broken_step step found ≡ Some entry
    → (state : State) × (entry ≡ Broke step.name state)
broken_one step sight.Away entry is = cc
broken_one step sight.Unreported entry is = cc
broken_one step (sight.Is view) entry is = go (is_broken_state view.control.state) is
  where
    go : (broken : Bool) → (if broken then Some (Broke step.name view.control.state) else None) ≡ Some entry
        → (state : State) × (entry ≡ Broke step.name state)
    go true is = (view.control.state, cc)
    go false is = cc

-- the first broken step is given with its name and its state
pub broken_first : (seen : Sights) (steps : List PlainStep) (entry : LogEntry) → first_broken seen steps ≡ Some entry
    → (name : List ℕ) × (state : State) × (entry ≡ Broke name state)
broken_first seen [] entry is = cc
broken_first seen (step ∷ steps) entry is = go (broken_step step (seen.view step.role step.service)) refl is
    (broken_first seen steps entry)
  where
    go : (found : Option LogEntry) → broken_step step (seen.view step.role step.service) ≡ found
        → option_or found (first_broken seen steps) ≡ Some entry →
        (first_broken seen steps ≡ Some entry → (name : List ℕ) × (state : State) × (entry ≡ Broke name state))
        → (name : List ℕ) × (state : State) × (entry ≡ Broke name state)
    go None at is rest = rest is
    go (Some other) at is rest = let one = broken_one step (seen.view step.role step.service) entry (at ∙ is) in
        (step.name, one.0, one.1)

-- the next entry of the chart comes from the chart and what is seen
run_from : (chart : PlainChart) (log : List LogEntry) (seen : Sights) (entry : LogEntry) (found : CursorNext)
    → next_after chart (chart_entries log) seen ≡ found →
    run_next found ≡ Did entry → ComesFrom chart log seen entry
run_from chart log seen entry Whole at is = cc
run_from chart log seen entry (Wait obstacle) at is = cc
run_from chart log seen entry (Entry other) at is = runs (at ∙ ap Entry (sym (same_did other entry is)))

-- what services that were held come to, and then the run of the chart
unhold_from_owed : (chart : PlainChart) (log : List LogEntry) (seen : Sights) (entry : LogEntry)
    (steps : List PlainStep) (found : CursorNext) → first_unhold seen steps ≡ found →
    run_next (unless_whole found (next_after chart (chart_entries log) seen)) ≡ Did entry
    → ComesFrom chart log seen entry
unhold_from_owed chart log seen entry steps (Entry other) at is =
    unholds (unhold_from seen steps entry (at ∙ ap Entry (sym (same_did other entry is))))
unhold_from_owed chart log seen entry steps (Wait obstacle) at is = cc
unhold_from_owed chart log seen entry steps Whole at is =
    run_from chart log seen entry (next_after chart (chart_entries log) seen) refl is

-- a step that broke comes first; where none did, what is owed an unhold or the chart's own entry comes
broke_from : (chart : PlainChart) (log : List LogEntry) (seen : Sights) (entry : LogEntry) (found : Option LogEntry)
    → first_broken seen (active chart log) ≡ found →
    did_or found (run_next (unless_whole (first_unhold seen (owed seen log (active chart log)))
    (next_after chart (chart_entries log) seen))) ≡ Did entry → ComesFrom chart log seen entry
broke_from chart log seen entry None at is =
    unhold_from_owed chart log seen entry (owed seen log (active chart log))
    (first_unhold seen (owed seen log (active chart log))) refl is
broke_from chart log seen entry (Some other) at is =
    let broke = broken_first seen (active chart log) other at in
    breaks broke.0 broke.1 (same_did other entry is ∙ broke.2)

-- what a frozen batch asks to hold
hold_from_active : (chart : PlainChart) (log : List LogEntry) (seen : Sights) (entry : LogEntry)
    (steps : List PlainStep) (found : Option LogEntry) → first_hold seen steps ≡ found →
    did_or found (Waiting why.Frozen) ≡ Did entry → ComesFrom chart log seen entry
hold_from_active chart log seen entry steps None at is = cc
hold_from_active chart log seen entry steps (Some other) at is =
    holds (hold_from seen steps entry (at ∙ ap Some (sym (same_did other entry is))))

-- each entry that a batch does next comes from one of the six
pub did_from : (chart : PlainChart) (freezing : Freezing) (log : List LogEntry) (seen : Sights) (entry : LogEntry)
    → next_by chart freezing log seen ≡ Did entry → ComesFrom chart log seen entry
did_from chart waiting log seen entry is = cc
did_from chart (holding asked) log seen entry is =
    hold_from_active chart log seen entry (unasked asked (active chart log))
    (first_hold seen (unasked asked (active chart log))) refl is
did_from chart thawed log seen entry is = go (has_broken log || was_stopped log) is
  where
    go : (stopping : Bool) →
        (if stopping then stop_next seen (has_broken log) (active chart log)
        else did_or (first_broken seen (active chart log))
        (run_next (unless_whole (first_unhold seen (owed seen log (active chart log)))
        (next_after chart (chart_entries log) seen))))
        ≡ Did entry → ComesFrom chart log seen entry
    go true is = stops_from chart log seen entry (has_broken log) (active chart log) is
    go false is = broke_from chart log seen entry (first_broken seen (active chart log)) refl is

-- the stop of a step doesn't complete a batch
stop_closes : (step : PlainStep) (tag : List ℕ) (found : Sight)
    → stop_step step.name step.service tag found ≡ Closed Completed → ⊥
stop_closes step tag sight.Away is = cc
stop_closes step tag sight.Unreported is = cc
stop_closes step tag (sight.Is view) is = go (is_none (forbidden_by view Recipe command.Stop)) is
  where
    go : (free : Bool) → (if free then Did (Stop step.name tag step.service) else Did
        (Left step.name view.control.state)) ≡ Closed Completed → ⊥
    go true is = cc
    go false is = cc

-- nor do the stops of all steps
stops_close : (seen : Sights) (broken : Bool) (steps : List PlainStep)
    → stop_next seen broken steps ≡ Closed Completed → ⊥
stops_close seen true [] is = cc
stops_close seen false [] is = cc
stops_close seen broken (step ∷ steps) is = stop_closes step (tag_of seen step.role)
    (seen.view step.role step.service) is

-- a run completes a batch only where its chart is whole
run_closes : (found : CursorNext) → run_next found ≡ Closed Completed → found ≡ Whole
run_closes Whole is = refl
run_closes (Wait obstacle) is = cc
run_closes (Entry entry) is = cc

-- where a batch is whole, nothing of its chart's run is left
unhold_closes : (found after : CursorNext) → unless_whole found after ≡ Whole → after ≡ Whole
unhold_closes Whole after is = is
unhold_closes (Wait obstacle) after is = cc
unhold_closes (Entry entry) after is = cc

-- nor where the batch closes as completed: no step broke, and nothing is owed
broke_closes : (found : Option LogEntry) (owes after : CursorNext)
    → did_or found (run_next (unless_whole owes after)) ≡ Closed Completed → after ≡ Whole
broke_closes None owes after is = unhold_closes owes after (run_closes (unless_whole owes after) is)
broke_closes (Some entry) owes after is = cc

-- a frozen batch isn't completed
hold_closes : (found : Option LogEntry) → did_or found (Waiting why.Frozen) ≡ Closed Completed → ⊥
hold_closes None is = cc
hold_closes (Some entry) is = cc

-- a batch is completed where nothing of its chart is left
pub completed_from : (chart : PlainChart) (freezing : Freezing) (log : List LogEntry) (seen : Sights)
    → next_by chart freezing log seen ≡ Closed Completed →
    next_after chart (chart_entries log) seen ≡ Whole
completed_from chart waiting log seen is = cc
completed_from chart (holding asked) log seen is =
    absurd (hold_closes (first_hold seen (unasked asked (active chart log))) is)
completed_from chart thawed log seen is = go (has_broken log || was_stopped log) is
  where
    go : (stopping : Bool) →
        (if stopping then stop_next seen (has_broken log) (active chart log)
        else did_or (first_broken seen (active chart log))
        (run_next (unless_whole (first_unhold seen (owed seen log (active chart log)))
        (next_after chart (chart_entries log) seen))))
        ≡ Closed Completed →
        next_after chart (chart_entries log) seen ≡ Whole
    go true is = absurd (stops_close seen (has_broken log) (active chart log) is)
    go false is =
        broke_closes (first_broken seen (active chart log)) (first_unhold seen (owed seen log (active chart log)))
        (next_after chart (chart_entries log) seen) is

-- a batch that does something next was started, and its recipe is there
pub record HasNext (history : History) (batch : List ℕ) (next : Next) : Type 0 where
  pub started : Started
  pub start_is : start_of history batch ≡ Some started
  pub chart : PlainChart
  pub chart_is : chart_named started.recipe (recipes history) ≡ Some chart
  pub next_is : next_by chart (freezing_of history batch) (log_of history batch)
      (sights_by (given started.binds) (λ tag. past tag history)) ≡ next

-- whatever comes next for a batch comes from its chart, its log and what it sees
pub has_next : (history : History) (batch : List ℕ) (next : Next) → next_of history batch ≡ Some next
    → HasNext history batch next
has_next history batch next is = go (start_of history batch) refl is
  where
    named : (started : Started) → start_of history batch ≡ Some started → (found : Option PlainChart)
        → chart_named started.recipe (recipes history) ≡ found →
        option_map (λ chart. next_by chart (freezing_of history batch) (log_of history batch)
        (sights_by (given started.binds) (λ tag. past tag history))) found ≡ Some next →
        HasNext history batch next
    named started start_is None chart_is is = cc
    named started start_is (Some chart) chart_is is =
        record { started = started; start_is = start_is; chart = chart; chart_is = chart_is; next_is = cc }

    go : (found : Option Started) → start_of history batch ≡ found →
        option_and_then (next_of_started (recipes history) (past_of_batch batch history)
        (λ tag. past tag history)) found ≡ Some next → HasNext history batch next
    go None start_is is = cc
    go (Some started) start_is is = named started start_is (chart_named started.recipe (recipes history)) refl is

-- what a started batch with this chart does next
pub next_at : (history : History) (batch : List ℕ) (started : Started) (chart : PlainChart) (next : Next)
    → start_of history batch ≡ Some started →
    chart_named started.recipe (recipes history) ≡ Some chart → next_of history batch ≡ Some next →
    next_by chart (freezing_of history batch) (log_of history batch)
    (sights_by (given started.binds) (λ tag. past tag history)) ≡ next
next_at history batch started chart next start_is chart_is is =
    let begun : option_and_then (next_of_started (recipes history) (past_of_batch batch history)
    (λ tag. past tag history)) (Some started) ≡ Some next
    = ap (option_and_then (next_of_started (recipes history) (past_of_batch batch history) (λ tag. past tag history)))
    (sym start_is) ∙ is in
    let found : option_map
    (λ chart. next_by chart (freezing_of history batch) (log_of history batch)
    (sights_by (given started.binds) (λ tag. past tag history))) (Some chart) ≡ Some next
    = ap (option_map (λ chart.
    next_by chart (freezing_of history batch) (log_of history batch)
    (sights_by (given started.binds) (λ tag. past tag history)))) (sym chart_is) ∙ begun in
    cc
