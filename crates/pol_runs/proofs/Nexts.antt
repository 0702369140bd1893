-- What the code finds is what comes next, for every log that the run stands for.
use Rattle.std.proofs.Common.{◌≡◌, ◌⊎◌, inl, inr, ℕ, Bool, true, false, cond, List, [], ◌∷◌, map, Option, Some, None, refl, ap, sym}
use Rattle.std.proofs.Common.{◌∙◌}
use Rattle.std.specs.Prelude.{not, ◌&&◌, nat_le, option_map}
use Rattle.std.proofs.lemmas.Bool.{and_right}
use Rattle.chart_core.specs.Active.{is_active, active_steps}
use Rattle.chart_core.specs.Charts.{plain_chart}
use Rattle.chart_core.specs.Trees.{Placed, PlainStep, steps}
use Rattle.chart_core.specs.declared.entry.LogEntry.{LogEntry}
use Rattle.chart_cursor.specs.Holding.{flag_at, is_unasked, numbered, under_way}
use Rattle.chart_cursor.specs.Listing.{waits_after}
use Rattle.chart_cursor.specs.Logs.{chart_entries, active, has_broken, was_stopped, was_held}
use Rattle.chart_cursor.specs.Next.{next_after}
use Rattle.chart_cursor.specs.NextEntry.{stop_next, first_broken, first_hold, unasked, is_under_way, owed, first_unhold}
use Rattle.chart_cursor.specs.NextEntry.{unless_whole, run_next, did_or, unfrozen_next}
use Rattle.chart_cursor.specs.Running.{is_wanted, running_step, first_placed, name_of}
use Rattle.chart_cursor.specs.Sights.{Sights}
use Rattle.chart_cursor.specs.declared.running.RunningStep.{RunningStep}
use Rattle.mtp_codes.specs.Names.{is_among, same_name}
use Rattle.chart_cursor.proofs.Held.{steps_of}
use Rattle.pol_events.specs.Bound.{bound_role, ArePaired, step_on}
use Rattle.pol_events.specs.declared.event.Bind.{Bind}
use Rattle.pol_events.proofs.Lists.{member_kept}
use Rattle.pol_events.proofs.Played.{plays, plays_none}
use Rattle.pol_runs.specs.Logs.{Asks, Follows, Proceeds}
use Rattle.pol_runs.specs.Runs.{PlainRun, from_of, is_breaking, is_stopping}
use Rattle.pol_runs.specs.Stopping.{stop_found}
use Rattle.pol_runs.specs.Waits.{waits_by}
use Rattle.pol_runs.specs.declared.course.Course.TheVariants.{Running, Breaking, Stopping}
use Rattle.pol_runs.proofs.Wanted.{first_step, late, from_zero, filter_same, filter_twice, mapped_filter, wanted_late}
use Rattle.pol_runs.proofs.Wanted.{wanted_first}

-- ---- the active steps

-- no step is active after the empty log
pub nothing_active : (placed : Placed) → is_active [] placed ≡ nat_le 0 placed.number && is_active [] placed
nothing_active placed = sym (and_right (nat_le 0 placed.number) false refl)

-- the active steps of the log are those that the chart's run leaves active, from a number on
pub actives : (run : PlainRun) (log : List LogEntry) → Proceeds run log →
    active_steps (plain_chart run.chart) log
    ≡ late (from_of run.course) (is_active (chart_entries log)) (steps (plain_chart run.chart).root 0)
actives run log proceeds =
    filter_same (is_active log)
    (λ placed. nat_le (from_of run.course) placed.number && is_active (chart_entries log) placed)
    (steps (plain_chart run.chart).root 0) proceeds.active

-- all of them, as the cursor lists them
pub all_active : (run : PlainRun) (log : List LogEntry) → Proceeds run log →
    numbered (nat_le (from_of run.course)) (active_steps (plain_chart run.chart) (chart_entries log))
    ≡ active_steps (plain_chart run.chart) log
all_active run log proceeds =
    filter_twice (is_active (chart_entries log)) (λ placed. nat_le (from_of run.course) placed.number)
    (steps (plain_chart run.chart).root 0)
    ∙ filter_same (λ placed. is_active (chart_entries log) placed && nat_le (from_of run.course) placed.number)
    (λ placed. nat_le (from_of run.course) placed.number && is_active (chart_entries log) placed)
    (steps (plain_chart run.chart).root 0)
    (λ placed inside. turned (is_active (chart_entries log) placed) (nat_le (from_of run.course) placed.number))
    ∙ sym (actives run log proceeds)
  where
    turned : (one other : Bool) → one && other ≡ other && one
    turned true true = refl
    turned true false = refl
    turned false true = refl
    turned false false = refl

-- the first of them, as the cursor finds it
pub first_active : (run : PlainRun) (log : List LogEntry) → Proceeds run log →
    first_placed (is_wanted (from_of run.course) None) (active_steps (plain_chart run.chart) (chart_entries log))
    ≡ first_step (active_steps (plain_chart run.chart) log)
first_active run log proceeds =
    wanted_first (from_of run.course) (is_active (chart_entries log)) (steps (plain_chart run.chart).root 0)
    ∙ ap first_step (sym (actives run log proceeds))

-- the first of a role, as the cursor finds it
pub role_active : (run : PlainRun) (log : List LogEntry) (role : List ℕ) → Proceeds run log →
    first_placed (is_wanted (from_of run.course) (Some role)) (active_steps (plain_chart run.chart) (chart_entries log))
    ≡ first_placed (is_wanted 0 (Some role)) (active_steps (plain_chart run.chart) log)
role_active run log role proceeds =
    wanted_late (from_of run.course) (Some role) (is_active (chart_entries log)) (steps (plain_chart run.chart).root 0)
    ∙ ap (first_placed (is_wanted 0 (Some role))) (sym (actives run log proceeds))

-- ---- what comes next

-- a batch that runs on has the active steps that the entries of the chart's run leave active
running_active : (run : PlainRun) (log : List LogEntry) → Proceeds run log → run.course ≡ Running →
    active_steps (plain_chart run.chart) log ≡ active_steps (plain_chart run.chart) (chart_entries log)
running_active run log proceeds is =
    filter_same (is_active log) (is_active (chart_entries log)) (steps (plain_chart run.chart).root 0) (λ placed inside.
    proceeds.active placed inside
    ∙ ap (λ course. nat_le (from_of course) placed.number && is_active (chart_entries log) placed) is
    ∙ ap (λ late. late && is_active (chart_entries log) placed) (from_zero placed.number))

-- of the active steps, those that are flagged as held and whose services aren't over are owed an Unhold
owed_flagged : (run : PlainRun) (log : List LogEntry) (seen : Sights) → Follows run log → run.course ≡ Running →
    under_way seen (steps_of (numbered (flag_at run.holds.held)
    (active_steps (plain_chart run.chart) (chart_entries log))))
    ≡ owed seen log (active (plain_chart run.chart) log)
owed_flagged run log seen follows is =
    let chart = plain_chart run.chart in
    ap (λ each. under_way seen (steps_of (numbered (flag_at run.holds.held) each)))
    (sym (running_active run log follows.proceeds is))
    ∙ ap (under_way seen) (mapped_filter (λ placed. flag_at run.holds.held placed.number)
    (λ step. was_held log step.name) (active_steps chart log)
    (λ placed inside. sym (follows.held placed (member_kept (is_active log) (steps chart.root 0) placed inside).0)))
    ∙ filter_twice (λ step. was_held log step.name) (λ step. is_under_way (seen.view step.role step.service))
    (active chart log)

-- in a batch that runs on, services are unheld, and then the chart's run goes on
pub running_next : (run : PlainRun) (log : List LogEntry) (seen : Sights) → Follows run log → run.course ≡ Running →
    did_or (first_broken seen (active (plain_chart run.chart) (chart_entries log)))
    (run_next (unless_whole (first_unhold seen (under_way seen (steps_of (numbered (flag_at run.holds.held)
    (active_steps (plain_chart run.chart) (chart_entries log))))))
    (next_after (plain_chart run.chart) (chart_entries log) seen)))
    ≡ unfrozen_next (plain_chart run.chart) log seen
running_next run log seen follows is =
    let broke : has_broken log ≡ false = follows.proceeds.broke ∙ ap is_breaking is in
    let stopped : was_stopped log ≡ false = follows.proceeds.stopped ∙ ap is_stopping is in
    ap (λ each. did_or (first_broken seen (active (plain_chart run.chart) (chart_entries log)))
    (run_next (unless_whole (first_unhold seen each)
    (next_after (plain_chart run.chart) (chart_entries log) seen)))) (owed_flagged run log seen follows is)
    ∙ ap (λ each. did_or (first_broken seen (steps_of each))
    (run_next (unless_whole (first_unhold seen (owed seen log (active (plain_chart run.chart) log)))
    (next_after (plain_chart run.chart) (chart_entries log) seen))))
    (sym (running_active run log follows.proceeds is))
    ∙ rw (broke, stopped) refl

-- the steps of a frozen batch that may be asked to hold, as the cursor finds them
pub hold_next : (run : PlainRun) (log : List LogEntry) (asked : List (List ℕ)) (seen : Sights) → Proceeds run log →
    Asks run asked →
    first_hold seen (steps_of (numbered (is_unasked (from_of run.course) run.holds.asked)
    (active_steps (plain_chart run.chart) (chart_entries log))))
    ≡ first_hold seen (unasked asked (active (plain_chart run.chart) log))
hold_next run log asked seen proceeds asks =
    let chart = plain_chart run.chart in
    let from = from_of run.course in
    ap (λ each. first_hold seen (steps_of each))
    (filter_twice (is_active (chart_entries log))
    (λ placed. is_unasked from run.holds.asked placed.number) (steps chart.root 0)
    ∙ filter_same
    (λ placed. is_active (chart_entries log) placed && is_unasked from run.holds.asked placed.number)
    (λ placed. is_active log placed && not (is_among asked placed.step.name)) (steps chart.root 0)
    (λ placed inside.
    in_order (is_active (chart_entries log) placed) (nat_le from placed.number)
    (not (flag_at run.holds.asked placed.number))
    ∙ ap (λ lives. lives && not (flag_at run.holds.asked placed.number)) (sym (proceeds.active placed inside))
    ∙ ap (λ flag. is_active log placed && not flag) (sym (asks placed inside)))
    ∙ sym (filter_twice (is_active log) (λ placed. not (is_among asked placed.step.name)) (steps chart.root 0)))
    ∙ ap (first_hold seen) (mapped_filter (λ placed. not (is_among asked placed.step.name))
    (λ step. not (is_among asked step.name)) (active_steps chart log) (λ placed inside. refl))
  where
    in_order : (lives late free : Bool) → lives && (late && free) ≡ (late && lives) && free
    in_order true true free = refl
    in_order true false free = refl
    in_order false true free = refl
    in_order false false free = refl

-- a batch that is stopped, by the first of its active steps
stop_first : (seen : Sights) (broken : Bool) (each : List Placed) →
    stop_found seen broken (first_step each) ≡ stop_next seen broken (map (λ placed. placed.step) each)
stop_first seen broken [] = refl
stop_first seen broken (placed ∷ each) = refl

-- in a batch that broke the first active step is stopped
pub breaking_next : (run : PlainRun) (log : List LogEntry) (seen : Sights) (from : ℕ) → Proceeds run log →
    run.course ≡ Breaking from →
    stop_found seen true (first_placed (is_wanted (from_of run.course) None)
    (active_steps (plain_chart run.chart) (chart_entries log)))
    ≡ unfrozen_next (plain_chart run.chart) log seen
breaking_next run log seen from proceeds is =
    let broke : has_broken log ≡ true = proceeds.broke ∙ ap is_breaking is in
    ap (stop_found seen true) (first_active run log proceeds)
    ∙ stop_first seen true (active_steps (plain_chart run.chart) log)
    ∙ rw broke refl

-- and so in one that was to be stopped
pub stopping_next : (run : PlainRun) (log : List LogEntry) (seen : Sights) (from : ℕ) → Proceeds run log →
    run.course ≡ Stopping from →
    stop_found seen false
    (first_placed (is_wanted (from_of run.course) None)
    (active_steps (plain_chart run.chart) (chart_entries log)))
    ≡ unfrozen_next (plain_chart run.chart) log seen
stopping_next run log seen from proceeds is =
    let broke : has_broken log ≡ false = proceeds.broke ∙ ap is_breaking is in
    let stopped : was_stopped log ≡ true = proceeds.stopped ∙ ap is_stopping is in
    ap (stop_found seen false) (first_active run log proceeds)
    ∙ stop_first seen false (active_steps (plain_chart run.chart) log)
    ∙ rw (broke, stopped) refl

-- ---- the first active step on a module

-- the first step of the role that a tag is bound to is the first step on the module
pub role_steps : (binds : List Bind) (tag role : List ℕ) → ArePaired binds → bound_role binds tag ≡ Some role →
    (each : List Placed) →
    name_of (first_placed (is_wanted 0 (Some role)) each)
    ≡ option_map (λ step. step.name) (step_on binds tag (map (λ placed. placed.step) each))
role_steps binds tag role paired bound [] = refl
role_steps binds tag role paired bound (placed ∷ each) =
    ap (λ low.
    name_of (cond (low && same_name placed.step.role role) (Some (running_step placed.number placed.step)) others))
    (from_zero placed.number)
    ∙ pick (same_name placed.step.role role) (role_steps binds tag role paired bound each)
    ∙ ap (λ own. option_map (λ (step : PlainStep). step.name) (cond own (Some placed.step) after))
    (sym (plays binds tag role paired bound placed.step.role))
  where
    others : Option RunningStep
    others = first_placed (is_wanted 0 (Some role)) each

    after : Option PlainStep
    after = step_on binds tag (map (λ placed. placed.step) each)

    pick : (own : Bool) → name_of others ≡ option_map (λ step. step.name) after →
        name_of (cond own (Some (running_step placed.number placed.step)) others)
        ≡ option_map (λ (step : PlainStep). step.name) (cond own (Some placed.step) after)
    pick true rest = refl
    pick false rest = rest

-- no step is on a module whose tag is bound to no role
pub no_steps : (binds : List Bind) (tag : List ℕ) → bound_role binds tag ≡ None → (each : List Placed) →
    step_on binds tag (map (λ placed. placed.step) each) ≡ None
no_steps binds tag none [] = refl
no_steps binds tag none (placed ∷ each) =
    ap (λ own. cond own (Some placed.step) (step_on binds tag (map (λ placed. placed.step) each)))
    (plays_none binds tag none placed.step.role)
    ∙ no_steps binds tag none each

-- ---- what its nodes wait for

-- in a batch that runs on they wait as those of the chart's run
pub running_waits : (run : PlainRun) (log : List LogEntry) (seen : Sights) → Proceeds run log → run.course ≡ Running →
    waits_after (plain_chart run.chart) (chart_entries log) seen ≡ waits_by (plain_chart run.chart) log seen
running_waits run log seen proceeds is =
    let broke : has_broken log ≡ false = proceeds.broke ∙ ap is_breaking is in
    let stopped : was_stopped log ≡ false = proceeds.stopped ∙ ap is_stopping is in
    rw (broke, stopped) refl

-- in one that broke or was to be stopped none does
pub halted_waits : (run : PlainRun) (log : List LogEntry) (seen : Sights) → Proceeds run log →
    ((from : ℕ) × (run.course ≡ Breaking from)) ⊎ ((from : ℕ) × (run.course ≡ Stopping from)) →
    [] ≡ waits_by (plain_chart run.chart) log seen
halted_waits run log seen proceeds (inl (from, is)) =
    let broke : has_broken log ≡ true = proceeds.broke ∙ ap is_breaking is in
    rw broke refl
halted_waits run log seen proceeds (inr (from, is)) =
    let broke : has_broken log ≡ false = proceeds.broke ∙ ap is_breaking is in
    let stopped : was_stopped log ≡ true = proceeds.stopped ∙ ap is_stopping is in
    rw (broke, stopped) refl
