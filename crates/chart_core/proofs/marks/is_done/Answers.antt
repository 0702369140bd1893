use Rattle.std.proofs.Common.{sym, ◌∙◌}
use Rattle.chart_core.specs.Charts.{plain_chart}
use Rattle.chart_core.proofs.Few.{few_marks}
use Rattle.chart_core.proofs.Logs.{done_is_complete, complete_is_done}
use Rattle.chart_core.proofs.marks.is_done.Goals as goal

pub follow-requires-clause-short : goal.follow-requires-clause-short
follow-requires-clause-short c = few_marks c.args.chart.now c.args.marks.now c.requires.valid c.requires.room

pub returns-clause-done : goal.returns-clause-done
returns-clause-done c =
    λ yes log stands. done_is_complete (plain_chart c.args.chart.now) c.args.marks.now log c.requires.valid stands
    (sym c.follow.ensures.done ∙ sym c.is_done.ensures ∙ yes)

pub returns-clause-complete : goal.returns-clause-complete
returns-clause-complete c =
    λ log stands complete.
    c.is_done.ensures ∙ c.follow.ensures.done
    ∙ complete_is_done (plain_chart c.args.chart.now) c.args.marks.now log c.requires.valid stands complete
