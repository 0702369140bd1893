-- What an entry that comes next is, and what the run stands for once it is done.
use Rattle.std.proofs.Common.{◌≡◌, ℕ, ◌+◌, ◌<◌, Bool, true, false, cond, List, [], ◌∷◌, ◌++◌, map, Option, Some, None}
use Rattle.std.proofs.Common.{is_some, is_none, refl, ap, sym, ◌∙◌, subst, arith}
use Rattle.std.specs.Prelude.{◌&&◌, ◌||◌, nat_le}
use Rattle.std.specs.Option.{option_or}
use Rattle.mtp_codes.specs.declared.command.Command.TheVariants as command
use Rattle.mtp_codes.specs.declared.mode.Speaker.TheVariants as speaker
use Rattle.mtp_codes.specs.declared.state.State.{State}
use Rattle.mtp_modes.specs.Permission.{forbidden_by}
use Rattle.chart_core.specs.declared.limits.TheConstants.{MOST_NODES}
use Rattle.chart_core.specs.Active.{is_active, active_steps}
use Rattle.chart_core.specs.Charts.{plain_chart}
use Rattle.chart_core.specs.Entries.{chart_entry}
use Rattle.chart_core.specs.Roles.{PlainChart}
use Rattle.chart_core.specs.Runs.{IsPartial}
use Rattle.chart_core.specs.Standing.{StandsFor}
use Rattle.chart_core.specs.Trees.{Placed, PlainStep, steps, size}
use Rattle.chart_core.specs.Valid.{IsValid}
use Rattle.chart_core.specs.declared.chart.Chart.{Chart}
use Rattle.chart_core.specs.declared.entry.LogEntry.{LogEntry}
use Rattle.chart_core.specs.declared.entry.LogEntry.TheVariants.{Stop, Broke, Left, StopAsked}
use Rattle.chart_core.specs.declared.next.Next.{Next}
use Rattle.chart_core.specs.declared.next.Next.TheVariants.{Did, Waiting}
use Rattle.chart_core.specs.declared.progress.Progress.{Progress}
use Rattle.chart_core.proofs.Few.{few_nodes}
use Rattle.chart_core.proofs.Logs.{stands_is_partial}
use Rattle.chart_core.proofs.Validity.{steps_rise}
use Rattle.chart_cursor.specs.Logs.{chart_entries, active, is_broke, has_broken, was_stopped}
use Rattle.chart_cursor.specs.Next.{next_after}
use Rattle.chart_cursor.specs.NextEntry.{stop_step, stop_next, is_broken_state, broken_step, first_broken, first_hold}
use Rattle.chart_cursor.specs.NextEntry.{unasked, owed, first_unhold, unless_whole, run_next, did_or, unfrozen_next}
use Rattle.chart_cursor.specs.NextEntry.{next_by}
use Rattle.chart_cursor.specs.Freezing.{Freezing, thawed, waiting, holding}
use Rattle.chart_core.specs.declared.why.Why.TheVariants.{Frozen}
use Rattle.chart_cursor.proofs.HoldSources.{hold_from, unhold_from}
use Rattle.chart_cursor.specs.Running.{is_wanted, running_step, first_placed}
use Rattle.chart_cursor.specs.Sights.{Sights, tag_of}
use Rattle.chart_cursor.specs.declared.next.CursorNext.{CursorNext}
use Rattle.chart_cursor.specs.declared.next.CursorNext.TheVariants.{Entry, Wait, Whole}
use Rattle.chart_cursor.specs.declared.running.RunningStep.{RunningStep}
use Rattle.chart_cursor.specs.declared.sight.Sight.{Sight}
use Rattle.chart_cursor.specs.declared.sight.Sight.TheVariants as sight
use Rattle.chart_cursor.proofs.Commanding.{next_of_run}
use Rattle.chart_cursor.proofs.Keeping.{keeps_the_run}
use Rattle.pol_runs.specs.Freezes.{freezing}
use Rattle.pol_runs.specs.Holds.{PlainHolds, AreHeld, Moves, is_hold}
use Rattle.pol_runs.specs.Logs.{Follows, Proceeds}
use Rattle.pol_runs.specs.declared.freeze.Freeze.TheVariants.{Thawed}
use Rattle.pol_runs.specs.Runs.{PlainRun, from_of, is_breaking, is_stopping}
use Rattle.pol_runs.specs.Stopping.{behind}
use Rattle.pol_runs.specs.declared.course.Course.{Course}
use Rattle.pol_runs.specs.declared.course.Course.TheVariants.{Running, Breaking, Stopping}
use Rattle.chart_core.proofs.StepNumbers.{rise_member}
use Rattle.pol_runs.proofs.Grown.{held_pushed, held_moves, hold_quiet}
use Rattle.pol_runs.proofs.Growing.{first_found, Leaves, by_leaving, by_run, by_silence, by_turn}
use Rattle.pol_runs.proofs.Nexts.{first_active}
use Rattle.pol_runs.proofs.Wanted.{first_step, wanted_first}

-- a step that is found has a small number
pub found_small : (chart : Chart) (word : List LogEntry) (from : ℕ) (found : RunningStep)
    → IsValid (plain_chart chart) →
    first_placed (is_wanted from None) (active_steps (plain_chart chart) word) ≡ Some found → found.number < MOST_NODES
found_small chart word from found valid is =
    let each = steps (plain_chart chart).root 0 in
    let rise = steps_rise (plain_chart chart).root 0 in
    let both : Placed → Bool = λ placed. nat_le from placed.number && is_active word placed in
    let is_first = sym (wanted_first from (is_active word) each) ∙ is in
    let first = first_found both 0 (0 + size (plain_chart chart).root) each found rise is_first in
    let below = (rise_member 0 (0 + size (plain_chart chart).root) each first.placed rise first.inside).1 in
    let few = few_nodes chart valid in
    let same : first.placed.number ≡ found.number = ap (λ step. step.number) first.is in
    omega arith

-- ---- what an entry that comes next is

-- a batch does a Hold only where it is frozen
hold_said : (seen : Sights) (each : List PlainStep) (found : Option LogEntry) (entry : LogEntry) (waits : Next) →
    first_hold seen each ≡ found → is_hold entry ≡ false → (Did entry ≡ waits → ⊥) → Did entry ≡ did_or found waits → ⊥
hold_said seen each None entry waits found other never is = never is
hold_said seen each (Some first) entry waits found other never is =
    let hold = hold_from seen each first found in
    let same : first ≡ entry = cc in
    let clash : true ≡ false = sym (ap is_hold hold.is) ∙ ap is_hold same ∙ other in cc

-- a batch that does another entry isn't frozen
thawed_said : (chart : PlainChart) (freezing : Freezing) (log : List LogEntry) (seen : Sights) (entry : LogEntry) →
    is_hold entry ≡ false → Did entry ≡ next_by chart freezing log seen →
    Did entry ≡ unfrozen_next chart log seen
thawed_said chart thawed log seen entry other is = is
thawed_said chart waiting log seen entry other is = cc
thawed_said chart (holding asked) log seen entry other is =
    absurd (hold_said seen (unasked asked (active chart log)) (first_hold seen (unasked asked (active chart log))) entry
    (Waiting Frozen) refl other (λ same. cc) is)

-- what an unfrozen batch does next, by whether it is stopped
abbrev halted : PlainChart → List LogEntry → Sights → Bool → Next
halted chart log seen halts =
    cond halts (stop_next seen (has_broken log) (active chart log))
    (did_or (first_broken seen (active chart log))
    (run_next (unless_whole (first_unhold seen (owed seen log (active chart log)))
    (next_after chart (chart_entries log) seen))))

-- an entry that a run says is the chart's own
run_said : (next : CursorNext) (entry : LogEntry) → Did entry ≡ run_next next → next ≡ Entry entry
run_said (Entry other) entry is = let same : other ≡ entry = cc in ap Entry same
run_said (Wait obstacle) entry is = cc
run_said Whole entry is = cc

-- the entry that says that a step broke is a Broke
broken_is : (step : PlainStep) (found : Sight) (entry : LogEntry) → broken_step step found ≡ Some entry →
    is_broke entry ≡ true
broken_is step sight.Away entry is = cc
broken_is step sight.Unreported entry is = cc
broken_is step (sight.Is view) entry is = go (is_broken_state view.control.state) is
  where
    go : (broken : Bool) → cond broken (Some (Broke step.name view.control.state)) None ≡ Some entry →
        is_broke entry ≡ true
    go true is = let same : Broke step.name view.control.state ≡ entry = cc in ap is_broke (sym same)
    go false is = cc

-- the entry of the first broken step says that it broke
first_is : (seen : Sights) (each : List PlainStep) (entry : LogEntry) → first_broken seen each ≡ Some entry →
    is_broke entry ≡ true
first_is seen [] entry is = cc
first_is seen (step ∷ each) entry is =
    go (broken_step step (seen.view step.role step.service)) refl is (first_is seen each entry)
  where
    go : (found : Option LogEntry) → broken_step step (seen.view step.role step.service) ≡ found →
        option_or found (first_broken seen each) ≡ Some entry →
        (first_broken seen each ≡ Some entry → is_broke entry ≡ true) → is_broke entry ≡ true
    go None found is rest = rest is
    go (Some other) found is rest = broken_is step (seen.view step.role step.service) entry (found ∙ is)

-- an entry that is no Unhold comes next in the chart's run
unhold_said : (seen : Sights) (each : List PlainStep) (found next : CursorNext) (entry : LogEntry) →
    first_unhold seen each ≡ found → is_hold entry ≡ false → Did entry ≡ run_next (unless_whole found next) →
    next ≡ Entry entry
unhold_said seen each (Entry first) next entry found other is =
    let unhold = unhold_from seen each first found in
    let same : first ≡ entry = cc in
    let clash : true ≡ false = sym (ap is_hold unhold.is) ∙ ap is_hold same ∙ other in cc
unhold_said seen each (Wait obstacle) next entry found other is = cc
unhold_said seen each Whole next entry found other is = run_said next entry is

-- an entry that isn't that the batch broke, is what comes where no step broke
broke_said : (seen : Sights) (each : List PlainStep) (found : Option LogEntry) (next : Next) (entry : LogEntry) →
    first_broken seen each ≡ found → is_broke entry ≡ false → Did entry ≡ did_or found next → Did entry ≡ next
broke_said seen each None next entry found quiet is = is
broke_said seen each (Some other) next entry found quiet is =
    let same : other ≡ entry = cc in
    let clash : true ≡ false = sym (first_is seen each entry (found ∙ ap Some same)) ∙ quiet in cc

-- in a batch that runs on, it is the entry that comes next in the chart's run, where it isn't Broke, Hold or Unhold
pub said_in_run : (chart : PlainChart) (freezing : Freezing) (log : List LogEntry) (seen : Sights) (entry : LogEntry) →
    has_broken log ≡ false → was_stopped log ≡ false → is_hold entry ≡ false → is_broke entry ≡ false →
    Did entry ≡ next_by chart freezing log seen →
    next_after chart (chart_entries log) seen ≡ Entry entry
said_in_run chart freezing log seen entry broke stopped other quiet is =
    let halts : has_broken log || was_stopped log ≡ false = ap (λ broke. broke || was_stopped log) broke ∙ stopped in
    let owed_steps = owed seen log (active chart log) in
    unhold_said seen owed_steps (first_unhold seen owed_steps)
    (next_after chart (chart_entries log) seen) entry refl other
    (broke_said seen (active chart log) (first_broken seen (active chart log)) _ entry refl quiet
    (thawed_said chart freezing log seen entry other is ∙ ap (halted chart log seen) halts))

-- in a batch that is stopped it stops or leaves the first active step
pub record IsLeft (found : Option RunningStep) (entry : LogEntry) : Type 0 where
  pub step : RunningStep
  pub is : found ≡ Some step
  pub leaves : Leaves entry step.name

-- an entry that a stop says leaves its step
stop_said : (step service tag : List ℕ) (seen : Sight) (entry : LogEntry) →
    Did entry ≡ stop_step step service tag seen →
    Leaves entry step
stop_said step service tag sight.Away entry is = cc
stop_said step service tag sight.Unreported entry is = cc
stop_said step service tag (sight.Is view) entry is = go (is_none (forbidden_by view speaker.Recipe command.Stop)) is
  where
    go : (may : Bool) → Did entry ≡ cond may (Did (Stop step tag service)) (Did (Left step view.control.state)) →
        Leaves entry step
    go true is =
        let same : Stop step tag service ≡ entry = cc in
        subst (λ entry. Leaves entry step) same
        (record { other = refl; broke = refl; stopped = refl; says = λ other. refl })
    go false is =
        let same : Left step view.control.state ≡ entry = cc in
        subst (λ entry. Leaves entry step) same
        (record { other = refl; broke = refl; stopped = refl; says = λ other. refl })

-- and so the first that the stop of all steps says
first_said : (seen : Sights) (broken : Bool) (each : List Placed) (entry : LogEntry) →
    Did entry ≡ stop_next seen broken (map (λ placed. placed.step) each) → IsLeft (first_step each) entry
first_said seen broken [] entry is = cc
first_said seen broken (placed ∷ each) entry is =
    let step = placed.step in
    record {
      step = running_step placed.number step;
      is = refl;
      leaves = stop_said step.name step.service (tag_of seen step.role) (seen.view step.role step.service) entry is;
    }

-- where a batch broke or was stopped, the entry that comes leaves its first active step, unless a hold comes before
pub said_in_stop : (chart : PlainChart) (freezing : Freezing) (log : List LogEntry) (seen : Sights) (entry : LogEntry) →
    has_broken log || was_stopped log ≡ true → is_hold entry ≡ false → Did entry ≡ next_by chart freezing log seen →
    IsLeft (first_step (active_steps chart log)) entry
said_in_stop chart freezing log seen entry halts other is =
    first_said seen (has_broken log) (active_steps chart log) entry
    (thawed_said chart freezing log seen entry other is ∙ ap (halted chart log seen) halts)

-- ---- the entry is done

-- it is what comes next after the log
abbrev pub ComesAfter : PlainRun → Sights → LogEntry → List LogEntry → List (List ℕ) → Type 0
ComesAfter run seen entry log asked =
    Did entry ≡ next_by (plain_chart run.chart) (freezing run.freeze asked) log seen

-- an entry that isn't Broke
abbrev pub IsNoBroke : LogEntry → Type 0
IsNoBroke entry = (step : List ℕ) (state : State) → entry ≡ Broke step state → ⊥

-- an entry of another kind says of no step that it broke
not_broke : (entry : LogEntry) → IsNoBroke entry → is_broke entry ≡ false
not_broke (Broke step state) other = absurd (other step state refl)
not_broke _ other = refl

module _ (run : PlainRun) (log : List LogEntry) (asked : List (List ℕ)) (seen : Sights) (entry : LogEntry)
    (valid : IsValid (plain_chart run.chart)) (proceeds : Proceeds run log)
    (said : ComesAfter run seen entry log asked) (other : is_hold entry ≡ false) where
  -- the entry that comes next in the chart's run goes on with a partial run
  goes_on : run.course ≡ Running → is_broke entry ≡ false →
      (is_some (chart_entry entry) ≡ true) × IsPartial (plain_chart run.chart) (chart_entries log ++ entry ∷ [])
  goes_on is quiet =
      let next =
      said_in_run (plain_chart run.chart) (freezing run.freeze asked) log seen entry
      (proceeds.broke ∙ ap is_breaking is) (proceeds.stopped ∙ ap is_stopping is) other quiet said in
      let partial = stands_is_partial (plain_chart run.chart) run.marks (chart_entries log) valid proceeds.marks in (
        next_of_run (plain_chart run.chart) (chart_entries log) seen entry next,
        keeps_the_run (plain_chart run.chart) (chart_entries log) seen entry valid partial next,
      )

  -- a run that goes on is a part of its chart's with the entry
  pub may_go : run.course ≡ Running → IsNoBroke entry →
      IsPartial (plain_chart run.chart) (chart_entries log ++ entry ∷ [])
  may_go is no_broke = (goes_on is (not_broke entry no_broke)).1

  -- the chart's run goes on
  by_going : (chart : Chart) (marks : List Progress) → run.course ≡ Running → IsNoBroke entry →
      chart ≡ run.chart → ((word : List LogEntry) → StandsFor (plain_chart run.chart) run.marks word →
      StandsFor (plain_chart chart) marks (word ++ entry ∷ [])) →
      Proceeds (record run { chart = chart; marks = marks }) (log ++ entry ∷ [])
  by_going chart marks is no_broke same takes =
      subst (λ chart. Proceeds (record run { chart = chart; marks = marks }) (log ++ entry ∷ [])) (sym same)
      (by_run run log entry marks is (goes_on is (not_broke entry no_broke)).0 proceeds
      (subst (λ chart. StandsFor (plain_chart chart) marks (chart_entries log ++ entry ∷ [])) same
      (takes (chart_entries log) proceeds.marks)))

  -- a batch that is stopped goes on being stopped
  by_stop : (course : Course) → is_breaking run.course || is_stopping run.course ≡ true →
      is_breaking course ≡ is_breaking run.course → is_stopping course ≡ is_stopping run.course →
      from_of course ≡ behind (from_of run.course) (first_placed (is_wanted (from_of run.course) None)
      (active_steps (plain_chart run.chart) (chart_entries log))) →
      Proceeds (record run { course = course }) (log ++ entry ∷ [])
  by_stop course halts breaks asks from =
      let stops : has_broken log || was_stopped log ≡ true = rw (proceeds.broke, proceeds.stopped) halts in
      let left = said_in_stop (plain_chart run.chart) (freezing run.freeze asked) log seen entry stops other said in
      by_leaving run log entry left.step course valid left.is left.leaves breaks asks
      (from ∙ ap (behind (from_of run.course)) (first_active run log proceeds ∙ left.is)) proceeds

-- the batch breaks
by_breaking : (run : PlainRun) (log : List LogEntry) (entry : LogEntry) (step : List ℕ) (state : State) →
    run.course ≡ Running → entry ≡ Broke step state → Proceeds run log →
    Proceeds (record run { course = Breaking 0 }) (log ++ entry ∷ [])
by_breaking run log entry step state is same proceeds =
    subst (λ entry. Proceeds (record run { course = Breaking 0 }) (log ++ entry ∷ [])) (sym same)
    (by_turn run log (Broke step state) (Breaking 0) is refl (λ name. refl) refl refl refl proceeds)

-- it is to be stopped
pub by_asking : (run : PlainRun) (log : List LogEntry) → run.course ≡ Running → Follows run log →
    Follows (record run { freeze = Thawed; course = Stopping 0 }) (log ++ StopAsked ∷ [])
by_asking run log is follows =
    let grown = by_turn run log StopAsked (Stopping 0) is refl (λ name. refl) refl refl refl follows.proceeds in
    record {
      proceeds = record { marks = grown.marks; broke = grown.broke; stopped = grown.stopped; active = grown.active };
      held = λ placed inside. held_pushed log StopAsked placed.step.name ∙ follows.held placed inside;
    }

-- ---- the flags move with the entry

-- a run that has come so far stands for the log, with flags that tell which steps were held
with_holds : (run : PlainRun) (log : List LogEntry) (holds : PlainHolds) → Proceeds run log →
    AreHeld (plain_chart run.chart) holds log → Follows (record run { holds = holds }) log
with_holds run log holds proceeds held =
    record {
      proceeds = record {
        marks = proceeds.marks;
        broke = proceeds.broke;
        stopped = proceeds.stopped;
        active = proceeds.active;
      };
      held = held;
    }

module _ (run : PlainRun) (log : List LogEntry) (entry : LogEntry) (holds : PlainHolds)
    (moves : Moves (plain_chart run.chart) entry run.holds holds) (follows : Follows run log) where
  -- the flags are those of the log with the entry
  held_after : AreHeld (plain_chart run.chart) holds (log ++ entry ∷ [])
  held_after = held_moves (plain_chart run.chart) log entry run.holds holds moves follows.held

  -- a step is held or unheld
  pub holds_on : is_hold entry ≡ true → Follows (record run { holds = holds }) (log ++ entry ∷ [])
  holds_on is =
      let quiet = hold_quiet entry is in
      with_holds run (log ++ entry ∷ []) holds
      (by_silence run log entry quiet.0 quiet.1 quiet.2 quiet.3 follows.proceeds) held_after

  -- the batch breaks
  pub breaks_off : (step : List ℕ) (state : State) → run.course ≡ Running → entry ≡ Broke step state →
      Follows (record run { holds = holds; course = Breaking 0 }) (log ++ entry ∷ [])
  breaks_off step state is same =
      with_holds (record run { course = Breaking 0 }) (log ++ entry ∷ []) holds
      (by_breaking run log entry step state is same follows.proceeds) held_after

  -- the chart's run goes on, or a step is stopped or left
  module _ (asked : List (List ℕ)) (seen : Sights) (valid : IsValid (plain_chart run.chart))
      (said : ComesAfter run seen entry log asked) (other : is_hold entry ≡ false) where
    pub goes_further : (chart : Chart) (marks : List Progress) → run.course ≡ Running → IsNoBroke entry →
        chart ≡ run.chart → ((word : List LogEntry) → StandsFor (plain_chart run.chart) run.marks word →
        StandsFor (plain_chart chart) marks (word ++ entry ∷ [])) →
        Follows (record run { chart = chart; marks = marks; holds = holds }) (log ++ entry ∷ [])
    goes_further chart marks is no_broke same takes =
        with_holds (record run { chart = chart; marks = marks }) (log ++ entry ∷ []) holds
        (by_going run log asked seen entry valid follows.proceeds said other chart marks is no_broke same takes)
        (subst (λ chart. AreHeld (plain_chart chart) holds (log ++ entry ∷ [])) (sym same) held_after)

    pub breaks_on : (from after : ℕ) → run.course ≡ Breaking from →
        after ≡ behind from (first_placed (is_wanted from None)
        (active_steps (plain_chart run.chart) (chart_entries log))) →
        Follows (record run { holds = holds; course = Breaking after }) (log ++ entry ∷ [])
    breaks_on from after is found =
        with_holds (record run { course = Breaking after }) (log ++ entry ∷ []) holds
        (by_stop run log asked seen entry valid follows.proceeds said other (Breaking after)
        (ap (λ course. is_breaking course || is_stopping course) is) (ap is_breaking (sym is))
        (ap is_stopping (sym is))
        (found ∙ ap (λ course. behind (from_of course) (first_placed (is_wanted (from_of course) None)
        (active_steps (plain_chart run.chart) (chart_entries log)))) (sym is))) held_after

    pub stops_on : (from after : ℕ) → run.course ≡ Stopping from →
        after ≡ behind from (first_placed (is_wanted from None)
        (active_steps (plain_chart run.chart) (chart_entries log))) →
        Follows (record run { holds = holds; course = Stopping after }) (log ++ entry ∷ [])
    stops_on from after is found =
        with_holds (record run { course = Stopping after }) (log ++ entry ∷ []) holds
        (by_stop run log asked seen entry valid follows.proceeds said other (Stopping after)
        (ap (λ course. is_breaking course || is_stopping course) is) (ap is_breaking (sym is))
        (ap is_stopping (sym is))
        (found ∙ ap (λ course. behind (from_of course) (first_placed (is_wanted (from_of course) None)
        (active_steps (plain_chart run.chart) (chart_entries log)))) (sym is))) held_after
