-- A run stands for its log with one more entry: one of the chart's run, one that has the batch stopped, or one that
-- stops or leaves the first active step.
use Rattle.std.proofs.Common.{◌≡◌, ℕ, ◌+◌, ◌≤◌, ◌<◌, Bool, true, false, cond, List, [], ◌∷◌, ◌++◌, Some, None, is_some}
use Rattle.std.proofs.Common.{refl, ap, sym, ◌∙◌, subst, inl, inr, arith, ◌⊎◌}
use Rattle.std.specs.Prelude.{◌&&◌, ◌||◌, nat_le, filter}
use Rattle.std.specs.List.{Contains}
use Rattle.std.proofs.lemmas.Bool.{and_right, and_parts, le-leb, leb-true, leb-false, lt-leb}
use Rattle.std.proofs.Math.Bool.{and-true}
use Rattle.std.proofs.lemmas.Slice.Eq.{bytes_eq-Decides}
use Rattle.mtp_codes.specs.Faults.{when}
use Rattle.mtp_codes.specs.Names.{same_name}
use Rattle.chart_core.specs.Active.{idle, phase_by, is_active, active_steps}
use Rattle.chart_core.specs.Charts.{plain_chart}
use Rattle.chart_core.specs.Entries.{chart_entry}
use Rattle.chart_core.specs.Standing.{StandsFor}
use Rattle.chart_core.specs.Trees.{Placed, steps, size}
use Rattle.chart_core.specs.Valid.{IsValid}
use Rattle.chart_core.specs.declared.entry.LogEntry.{LogEntry}
use Rattle.chart_core.specs.declared.progress.Progress.{Progress}
use Rattle.chart_core.proofs.Lawful.{member_cases, names_tell_steps}
use Rattle.chart_core.proofs.StepNumbers.{rise_member}
use Rattle.chart_core.proofs.Validity.{Rise, steps_rise}
use Rattle.chart_cursor.specs.Logs.{chart_entries, is_broke, is_stop_asked}
use Rattle.chart_cursor.specs.Running.{running_step}
use Rattle.chart_cursor.specs.declared.running.RunningStep.{RunningStep}
use Rattle.pol_events.proofs.Lists.{member_first, member_later}
use Rattle.pol_runs.specs.Logs.{Proceeds}
use Rattle.pol_runs.specs.Runs.{PlainRun, from_of, is_breaking, is_stopping}
use Rattle.pol_runs.specs.declared.course.Course.{Course}
use Rattle.pol_runs.specs.declared.course.Course.TheVariants.{Running}
use Rattle.chart_cursor.proofs.Pushed.{run_grows, run_stays}
use Rattle.pol_runs.proofs.Grown.{any_pushed, any_silent, run_quiet, active_by, active_pushed}
use Rattle.pol_runs.proofs.Wanted.{first_step, from_zero}

-- ---- an entry of the chart's run

-- the run whose marks stand for the entries with this one stands for the log with it
pub by_run : (run : PlainRun) (log : List LogEntry) (entry : LogEntry) (marks : List Progress) → run.course ≡ Running →
    is_some (chart_entry entry) ≡ true → Proceeds run log →
    StandsFor (plain_chart run.chart) marks (chart_entries log ++ entry ∷ []) →
    Proceeds (record run { marks = marks }) (log ++ entry ∷ [])
by_run run log entry marks is of_run proceeds stands =
    record {
      marks = subst (StandsFor (plain_chart run.chart) marks) (sym (run_grows log entry of_run)) stands;
      broke = any_silent is_broke log entry (run_quiet entry of_run).0 ∙ proceeds.broke;
      stopped = any_silent is_stop_asked log entry (run_quiet entry of_run).1 ∙ proceeds.stopped;
      active = active;
    }
  where
    late : (placed : Placed) → nat_le (from_of run.course) placed.number ≡ true
    late placed = ap (λ course. nat_le (from_of course) placed.number) is ∙ from_zero placed.number

    same : (placed : Placed) → Contains (steps (plain_chart run.chart).root 0) placed →
        is_active log placed ≡ is_active (chart_entries log) placed
    same placed inside =
        proceeds.active placed inside ∙ ap (λ late. late && is_active (chart_entries log) placed) (late placed)

    active : (placed : Placed) → Contains (steps (plain_chart run.chart).root 0) placed →
        is_active (log ++ entry ∷ []) placed
        ≡ nat_le (from_of run.course) placed.number && is_active (chart_entries (log ++ entry ∷ [])) placed
    active placed inside =
        active_pushed log entry placed
        ∙ ap (active_by (phase_by placed.step.name entry)) (same placed inside)
        ∙ sym (active_pushed (chart_entries log) entry placed)
        ∙ ap (λ word. is_active word placed) (sym (run_grows log entry of_run))
        ∙ ap (λ late. late && is_active (chart_entries (log ++ entry ∷ [])) placed) (sym (late placed))

-- ---- the batch breaks, or is to be stopped

-- an entry of no step turns the course of a batch that runs on, and leaves the active steps
pub by_turn : (run : PlainRun) (log : List LogEntry) (entry : LogEntry) (course : Course) → run.course ≡ Running →
    is_some (chart_entry entry) ≡ false → ((name : List ℕ) → phase_by name entry ≡ None) → from_of course ≡ 0 →
    is_broke entry ≡ is_breaking course → is_stop_asked entry ≡ is_stopping course → Proceeds run log →
    Proceeds (record run { course = course }) (log ++ entry ∷ [])
by_turn run log entry course is other quiet from broke stopped proceeds =
    record {
      marks = subst (StandsFor (plain_chart run.chart) run.marks) (sym (run_stays log entry other)) proceeds.marks;
      broke = any_pushed is_broke log entry
          ∙ ap (λ before. before || is_broke entry) (proceeds.broke ∙ ap is_breaking is) ∙ broke;
      stopped = any_pushed is_stop_asked log entry
          ∙ ap (λ before. before || is_stop_asked entry) (proceeds.stopped ∙ ap is_stopping is) ∙ stopped;
      active = λ placed inside.
          active_pushed log entry placed
          ∙ ap (λ said. active_by said (is_active log placed)) (quiet placed.step.name)
          ∙ proceeds.active placed inside
          ∙ ap (λ from. nat_le from placed.number && is_active (chart_entries log) placed) (ap from_of is ∙ sym from)
          ∙ ap (λ word. nat_le (from_of course) placed.number && is_active word placed)
          (sym (run_stays log entry other));
    }

-- ---- a step is held or unheld

-- an entry that says nothing of the run, of the course or of a step's phase leaves all as it was
pub by_silence : (run : PlainRun) (log : List LogEntry) (entry : LogEntry) →
    is_some (chart_entry entry) ≡ false → ((name : List ℕ) → phase_by name entry ≡ None) →
    is_broke entry ≡ false → is_stop_asked entry ≡ false → Proceeds run log → Proceeds run (log ++ entry ∷ [])
by_silence run log entry other quiet broke stopped proceeds =
    record {
      marks = subst (StandsFor (plain_chart run.chart) run.marks) (sym (run_stays log entry other)) proceeds.marks;
      broke = any_silent is_broke log entry broke ∙ proceeds.broke;
      stopped = any_silent is_stop_asked log entry stopped ∙ proceeds.stopped;
      active = λ placed inside.
          active_pushed log entry placed
          ∙ ap (λ said. active_by said (is_active log placed)) (quiet placed.step.name)
          ∙ proceeds.active placed inside
          ∙ ap (λ word. nat_le (from_of run.course) placed.number && is_active word placed)
          (sym (run_stays log entry other));
    }

-- ---- a step is stopped or left

-- the first of these steps that passes the test: the others that pass stand behind it
pub record IsFirst (test : Placed → Bool) (each : List Placed) (found : RunningStep) : Type 0 where
  pub placed : Placed
  pub inside : Contains each placed
  pub passes : test placed ≡ true
  pub is : running_step placed.number placed.step ≡ found
  pub before : (other : Placed) → Contains each other → test other ≡ true →
      (other ≡ placed) ⊎ (placed.number < other.number)

-- what is found first is the first
pub first_found : (test : Placed → Bool) (low high : ℕ) (each : List Placed) (found : RunningStep) →
    Rise low high each →
    first_step (filter test each) ≡ Some found → IsFirst test each found
first_found test low high [] found rise is = cc
first_found test low high (first ∷ each) found (at_least, below, rise) is =
    go (test first) refl is (first_found test (first.number + 1) high each found rise)
  where
    go : (passes : Bool) → test first ≡ passes →
        first_step (cond passes (first ∷ filter test each) (filter test each)) ≡ Some found →
        (first_step (filter test each) ≡ Some found → IsFirst test each found) → IsFirst test (first ∷ each) found
    go true passes is rest =
        let same : running_step first.number first.step ≡ found = cc in
        record {
          placed = first;
          inside = member_first first each;
          passes = passes;
          is = same;
          before = λ other inside yes. elim (member_cases first other each inside) [
            | inl here ↦ inl (sym here)
            | inr later ↦
                let r = rise_member (first.number + 1) high each other rise later in
                let behind : first.number < other.number = omega arith in inr behind
          ];
        }
    go false passes is rest =
        let r = rest is in
        record {
          placed = r.placed;
          inside = member_later first r.placed each r.inside;
          passes = r.passes;
          is = r.is;
          before = λ other inside yes. elim (member_cases first other each inside) [
            | inl here ↦ (let clash : false ≡ true = sym passes ∙ ap test here ∙ yes in cc)
            | inr later ↦ r.before other later yes
          ];
        }

-- the first active step of a batch
pub the_first : (run : PlainRun) (log : List LogEntry) (found : RunningStep) →
    first_step (active_steps (plain_chart run.chart) log) ≡ Some found →
    IsFirst (is_active log) (steps (plain_chart run.chart).root 0) found
the_first run log found is =
    first_found (is_active log) 0 (0 + size (plain_chart run.chart).root) (steps (plain_chart run.chart).root 0) found
    (steps_rise (plain_chart run.chart).root 0) is

-- an entry that stops or leaves the step with this name
pub record Leaves (entry : LogEntry) (name : List ℕ) : Type 0 where
  pub other : is_some (chart_entry entry) ≡ false
  pub broke : is_broke entry ≡ false
  pub stopped : is_stop_asked entry ≡ false
  pub says : (other : List ℕ) → phase_by other entry ≡ when (same_name name other) idle

-- a batch that is stopped, once its first active step is stopped or left: from the next number on
pub by_leaving : (run : PlainRun) (log : List LogEntry) (entry : LogEntry) (found : RunningStep) (course : Course) →
    IsValid (plain_chart run.chart) → first_step (active_steps (plain_chart run.chart) log) ≡ Some found
    → Leaves entry found.name →
    is_breaking course ≡ is_breaking run.course → is_stopping course ≡ is_stopping run.course →
    from_of course ≡ found.number + 1 → Proceeds run log → Proceeds (record run { course = course }) (log ++ entry ∷ [])
by_leaving run log entry found course valid first leaves broke stopped from proceeds =
    record {
      marks = subst (StandsFor (plain_chart run.chart) run.marks) (sym (run_stays log entry leaves.other))
          proceeds.marks;
      broke = any_silent is_broke log entry leaves.broke ∙ proceeds.broke ∙ sym broke;
      stopped = any_silent is_stop_asked log entry leaves.stopped ∙ proceeds.stopped ∙ sym stopped;
      active = λ placed inside.
          active_pushed log entry placed
          ∙ ap (λ said. active_by said (is_active log placed)) (leaves.says placed.step.name)
          ∙ go placed inside (same_name found.name placed.step.name) refl
          ∙ ap (λ from. nat_le from placed.number && runs placed) (sym from)
          ∙ ap (λ word. nat_le (from_of course) placed.number && is_active word placed)
          (sym (run_stays log entry leaves.other));
    }
  where
    runs : Placed → Bool
    runs placed = is_active (chart_entries log) placed

    high : Placed → Bool
    high placed = nat_le (from_of run.course) placed.number

    is : IsFirst (is_active log) (steps (plain_chart run.chart).root 0) found
    is = the_first run log found first

    number : found.number ≡ is.placed.number
    number = ap (λ step. step.number) (sym is.is)

    named : found.name ≡ is.placed.step.name
    named = ap (λ step. step.name) (sym is.is)

    low : from_of run.course ≤ found.number
    low =
        let both = sym (proceeds.active is.placed is.inside) ∙ is.passes in
        let parts = and_parts (high is.placed) (runs is.placed) both in
        let here = leb-true (from_of run.course) is.placed.number parts.0 in
        rw number here

    go : (placed : Placed) → Contains (steps (plain_chart run.chart).root 0) placed → (same : Bool) →
        same_name found.name placed.step.name ≡ same →
        active_by (when same idle) (is_active log placed) ≡ nat_le (found.number + 1) placed.number && runs placed
    go placed inside true same =
        let one : is.placed ≡ placed =
        names_tell_steps (plain_chart run.chart) is.placed placed valid is.inside inside
        (sym named ∙ (bytes_eq-Decides found.name placed.step.name).0 same) in
        let at : found.number ≡ placed.number = number ∙ ap (λ placed. placed.number) one in
        let here : placed.number < found.number + 1 = omega arith in
        sym (ap (λ late. late && runs placed) (lt-leb (found.number + 1) placed.number here))
    go placed inside false same = either (is_active log placed) refl
      where
        either : (lives : Bool) → is_active log placed ≡ lives →
            is_active log placed ≡ nat_le (found.number + 1) placed.number && runs placed
        either true lives =
            elim (is.before placed inside lives) [
              | inl one ↦ (
                  let equal : found.name ≡ placed.step.name = named ∙ ap (λ placed. placed.step.name) (sym one) in
                  let clash : true ≡ false = sym ((bytes_eq-Decides found.name placed.step.name).1 equal) ∙ same in cc)
              | inr behind ↦ (
                  let late : found.number + 1 ≤ placed.number = let at = number in omega arith in
                  let active =
                  (and_parts (high placed) (runs placed) (sym (proceeds.active placed inside) ∙ lives)).1 in
                  let high = le-leb (found.number + 1) placed.number late in
                  lives ∙ sym (ap (λ high. high && runs placed) high ∙ active))
            ]
        either false lives = lives ∙ sym (quiet (runs placed) refl)
          where
            quiet : (active : Bool) → runs placed ≡ active →
                nat_le (found.number + 1) placed.number && runs placed ≡ false
            quiet false active = and_right (nat_le (found.number + 1) placed.number) (runs placed) active
            quiet true active =
                let early =
                leb-false (from_of run.course) placed.number
                (sym (and-true (high placed)) ∙ ap (λ active. high placed && active) (sym active)
                ∙ sym (proceeds.active placed inside) ∙ lives) in
                let least = low in
                let before : placed.number < found.number + 1 = omega arith in
                ap (λ late. late && runs placed) (lt-leb (found.number + 1) placed.number before)
