use Rattle.std.proofs.Common.{sym, ◌∙◌, ap}
use Rattle.chart_core.specs.Charts.{plain_chart}
use Rattle.chart_core.specs.Progress.{marks_of}
use Rattle.chart_core.specs.Changes.{moved}
use Rattle.chart_core.proofs.Few.{few_marks}
use Rattle.chart_core.proofs.Logs.{step_stands, stuck}
use Rattle.chart_core.proofs.marks.take_entry.Goals as goal

pub follow-requires-clause-short : goal.follow-requires-clause-short
follow-requires-clause-short c = few_marks c.args.chart.now c.args.marks.now c.requires.valid c.requires.room

pub returns-in-Some-clause-taken : goal.returns-in-Some-clause-taken
returns-in-Some-clause-taken c =
    λ _ log stands.
    step_stands (plain_chart c.args.chart.now) c.args.marks.now c.make.new.marks log c.args.entry.now c.in-Some.change
    c.requires.valid stands
    (sym c.follow.ensures.change ∙ sym c.change.ensures ∙ c.in-Some.is) c.make.ensures

pub returns-in-None-clause-refused : goal.returns-in-None-clause-refused
returns-in-None-clause-refused c =
    λ _ log back stands partial.
    stuck (plain_chart c.args.chart.now) c.args.marks.now log c.args.entry.now back c.requires.valid stands
    (sym c.follow.ensures.change ∙ sym c.change.ensures ∙ c.in-None.is) partial

pub returns-in-Some-clause-moves : goal.returns-in-Some-clause-moves
returns-in-Some-clause-moves c =
    λ i. c.make.ensures i ∙ ap (λ change. moved (marks_of c.args.marks.now) change i)
    (sym c.in-Some.is ∙ c.change.ensures ∙ c.follow.ensures.change)

pub returns-in-None-clause-moves : goal.returns-in-None-clause-moves
returns-in-None-clause-moves c = λ i. ap (λ change. moved (marks_of c.args.marks.now) change i)
    (sym c.in-None.is ∙ c.change.ensures ∙ c.follow.ensures.change)
