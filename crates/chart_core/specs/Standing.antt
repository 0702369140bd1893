-- Which logs the marks of a chart stand for, and the marks after a log.
use Rattle.std.specs.Prelude.{◌≡◌, List}
use Rattle.chart_core.specs.Roles.{PlainChart}
use Rattle.chart_core.specs.Runs.{course_of, word}
use Rattle.chart_core.specs.Progress.{Marks, Stands, marks_of}
use Rattle.chart_core.specs.Changes.{marks_along}
use Rattle.chart_core.specs.declared.progress.Progress.{Progress}
use Rattle.chart_core.specs.declared.progress.Progress.TheVariants.{Untouched}
use Rattle.chart_core.specs.declared.entry.LogEntry.{LogEntry}

-- the marks, one for each node, stand for the log: how far each node has come after it
abbrev pub StandsFor : PlainChart → List Progress → List LogEntry → Type 0
StandsFor chart marks log = Stands (course_of chart) (marks_of marks) (word log)

-- how far each node has come after the log, worked out entry by entry
abbrev pub marks_after : PlainChart → List LogEntry → Marks
marks_after chart log = marks_along (course_of chart) (λ i. Untouched) (word log)

-- the marks are those after the log; an entry of the log that may not come at its place is passed over
abbrev pub AreAfter : PlainChart → List Progress → List LogEntry → Type 0
AreAfter chart marks log = marks_of marks ≡ marks_after chart log
