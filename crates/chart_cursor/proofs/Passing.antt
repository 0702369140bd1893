-- The marks after a log, as an entry more moves them.
use Rattle.std.specs.Prelude.{ℕ, ◌≡◌, ◌++◌, ◌∷◌, [], List, refl}
use Rattle.std.proofs.Common.{sym, ◌∙◌, ap}
use Rattle.std.proofs.Math.Path.{fun_ext}
use Rattle.std.proofs.lemmas.List.{map-append}
use Rattle.chart_core.specs.Courses.{Course}
use Rattle.chart_core.specs.Roles.{PlainChart}
use Rattle.chart_core.specs.Runs.{course_of, with_condition, word}
use Rattle.chart_core.specs.Progress.{Marks, marks_of}
use Rattle.chart_core.specs.Changes.{change_by, moved, marks_along}
use Rattle.chart_core.specs.Standing.{AreAfter}
use Rattle.chart_core.specs.declared.entry.LogEntry.{LogEntry}
use Rattle.chart_core.specs.declared.progress.Progress.{Progress}
use Rattle.chart_core.specs.declared.progress.Progress.TheVariants.{Untouched}

-- untouched marks are those after the empty log
pub after_none : (chart : PlainChart) (marks : List Progress) → ((i : ℕ) → marks_of marks i ≡ Untouched)
    → AreAfter chart marks []
after_none chart marks fresh = fun_ext fresh

-- one word and then another move the marks as both together
along_both : {E : Type 0} (course : Course E) (marks : Marks) (one other : List E)
    → marks_along course marks (one ++ other) ≡ marks_along course (marks_along course marks one) other
along_both course marks [] other = refl
along_both course marks (entry ∷ one) other =
    along_both course (moved marks (change_by course marks entry)) one other

-- marks that move by an entry are those after the log with the entry at its end
pub after_one : (chart : PlainChart) (old new : List Progress) (log : List LogEntry) (entry : LogEntry)
    → ((i : ℕ) → marks_of new i
    ≡ moved (marks_of old) (change_by (course_of chart) (marks_of old) (with_condition entry)) i)
    → AreAfter chart old log → AreAfter chart new (log ++ (entry ∷ []))
after_one chart old new log entry moves after =
    let course = course_of chart in
    let more = word (entry ∷ []) in
    fun_ext moves ∙ ap (λ marks. marks_along course marks more) after
    ∙ sym (along_both course (λ i. Untouched) (word log) more)
    ∙ ap (marks_along course (λ i. Untouched)) (sym (map-append with_condition log (entry ∷ [])))
