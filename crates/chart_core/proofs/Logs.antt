-- The marks of a chart over a log.
use Rattle.std.specs.Prelude.{ℕ, ◌≡◌, List, [], ◌∷◌, ◌++◌, Some, None, true}
use Rattle.std.proofs.Common.{sym, ◌∙◌, subst, append_assoc}
use Rattle.std.proofs.lemmas.List.{map-append}
use Rattle.chart_core.specs.Roles.{PlainChart}
use Rattle.chart_core.specs.Courses.{Partial}
use Rattle.chart_core.specs.Runs.{with_condition, word, course_of, IsPartial, IsComplete}
use Rattle.chart_core.specs.Valid.{IsValid}
use Rattle.chart_core.specs.Progress.{marks_of, Stands}
use Rattle.chart_core.specs.Changes.{is_done, change_by, changed}
use Rattle.chart_core.specs.Standing.{StandsFor}
use Rattle.chart_core.specs.declared.entry.LogEntry.{LogEntry}
use Rattle.chart_core.specs.declared.progress.Progress.{Progress}
use Rattle.chart_core.specs.declared.progress.Progress.TheVariants.{Untouched}
use Rattle.chart_core.specs.declared.progress.Change.{Change}
use Rattle.chart_core.proofs.Relations.{Sound}
use Rattle.chart_core.proofs.Link.{complete_partial, agree_stands, fresh_stands, done_complete, stands_partial}
use Rattle.chart_core.proofs.Onward.{take_stands, partial_awaits, complete_done}
use Rattle.chart_core.proofs.Changing.{change_moves, await_change, done_of, of_done}
use Rattle.chart_core.proofs.Apart.{sound}
use Rattle.chart_core.proofs.Validity.{valid_distinct}
use Rattle.chart_core.proofs.Fronts.{partial_front}

-- the course of a valid chart is sound
pub chart_sound : (chart : PlainChart) → IsValid chart → Sound (course_of chart)
chart_sound chart valid = sound chart.root 0 (valid_distinct chart valid)

-- untouched marks stand for the empty log
pub start_stands : (chart : PlainChart) (marks : List Progress) → IsValid chart
    → ((place : ℕ) → marks_of marks place ≡ Untouched) → StandsFor chart marks []
start_stands chart marks valid untouched = fresh_stands (course_of chart) (marks_of marks) (chart_sound chart valid)
    (λ place has. untouched place)

-- after an entry's change the marks stand for the log with the entry
pub step_stands :
    (chart : PlainChart) (marks after : List Progress) (log : List LogEntry) (entry : LogEntry) (change : Change)
    → IsValid chart → StandsFor chart marks log → change_by (course_of chart) (marks_of marks) (with_condition entry)
    ≡ Some change
    → ((place : ℕ) → marks_of after place ≡ changed change (marks_of marks) place)
    → StandsFor chart after (log ++ (entry ∷ []))
step_stands chart marks after log entry change valid stands changes same =
    let is_sound = chart_sound chart valid in
    let moves = change_moves (course_of chart) (marks_of marks) (with_condition entry) change is_sound changes in
    subst (Stands (course_of chart) (marks_of after)) (sym (map-append with_condition log (entry ∷ [])))
    (agree_stands (course_of chart) (changed change (marks_of marks)) (marks_of after)
    (word log ++ (with_condition entry ∷ [])) (λ place has. same place) is_sound
    (take_stands (course_of chart) (marks_of marks) (word log) (with_condition entry)
    (changed change (marks_of marks)) is_sound stands moves))

-- where the entry changes nothing, no partial run goes on with it
pub stuck :
    (chart : PlainChart) (marks : List Progress) (log : List LogEntry) (entry : LogEntry) (back : List LogEntry)
    → IsValid chart → StandsFor chart marks log
    → change_by (course_of chart) (marks_of marks) (with_condition entry) ≡ None
    → IsPartial chart (log ++ (entry ∷ back)) → ⊥
stuck chart marks log entry back valid stands none part =
    let is_sound = chart_sound chart valid in
    let front : Partial (course_of chart) (word log ++ (with_condition entry ∷ []))
    = partial_front (course_of chart) (word log ++ (with_condition entry ∷ [])) (word back)
    (subst (Partial (course_of chart)) (map-append with_condition log (entry ∷ back)
    ∙ sym (append_assoc (word log) (with_condition entry ∷ []) (word back))) part) in
    let found = await_change (course_of chart) (marks_of marks) (with_condition entry) is_sound
    (partial_awaits (course_of chart) (marks_of marks) (word log) (with_condition entry) is_sound stands front) in
    let no : Some found.0 ≡ None = sym found.1 ∙ none in cc

-- what the marks stand for is a partial run
pub stands_is_partial : (chart : PlainChart) (marks : List Progress) (log : List LogEntry) → IsValid chart
    → StandsFor chart marks log → IsPartial chart log
stands_is_partial chart marks log valid stands = stands_partial (course_of chart) (marks_of marks) (word log)
    (chart_sound chart valid) stands

-- where they are done it is a complete one
pub done_is_complete :
    (chart : PlainChart) (marks : List Progress) (log : List LogEntry) → IsValid chart → StandsFor chart marks log
    → is_done (course_of chart) (marks_of marks) ≡ true → IsComplete chart log
done_is_complete chart marks log valid stands done =
    done_complete (course_of chart) (marks_of marks) (word log) (chart_sound chart valid) stands
    (done_of (course_of chart) (marks_of marks) done)

-- and only there
pub complete_is_done :
    (chart : PlainChart) (marks : List Progress) (log : List LogEntry) → IsValid chart → StandsFor chart marks log
    → IsComplete chart log → is_done (course_of chart) (marks_of marks) ≡ true
complete_is_done chart marks log valid stands done =
    of_done (course_of chart) (marks_of marks) (complete_done (course_of chart) (marks_of marks) (word log)
    (chart_sound chart valid) stands done)

-- a complete run is a partial one
pub complete_is_partial : (chart : PlainChart) (log : List LogEntry) → IsComplete chart log → IsPartial chart log
complete_is_partial chart log whole = complete_partial (course_of chart) (word log) whole
