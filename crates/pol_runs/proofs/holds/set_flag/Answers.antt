use Rattle.std.proofs.Common.{◌∙◌, sym, ap, cond, arith}
use Rattle.chart_core.specs.Charts.{plain_chart}
use Rattle.chart_core.proofs.StepNumbers.{number_small, nothing_named}
use Rattle.chart_cursor.specs.Holding.{flag_at}
use Rattle.pol_runs.proofs.Flags.{flag_set}
use Rattle.pol_runs.proofs.holds.set_flag.Goals as goal

pub bounds-flags-number : goal.bounds-flags-number
bounds-flags-number c =
    let small = number_small (plain_chart c.args.chart.now) c.args.name c.in-Some.number
    (sym c.step_number.ensures ∙ c.in-Some.is) in
    let room = c.requires.room in omega arith

pub returns-in-Some-clause-flags : goal.returns-in-Some-clause-flags
returns-in-Some-clause-flags c = λ placed inside.
    flag_set (plain_chart c.args.chart.now) c.args.name c.in-Some.number c.args.flags.now c.args.flag placed
    c.requires.valid c.requires.room (sym c.step_number.ensures ∙ c.in-Some.is) inside

pub returns-in_default-clause-flags : goal.returns-in_default-clause-flags
returns-in_default-clause-flags c = λ placed inside.
    sym (ap (λ same. cond same c.args.flag (flag_at c.args.flags.now placed.number))
    (nothing_named (plain_chart c.args.chart.now) c.args.name placed (sym c.step_number.ensures ∙ c.in_default.is)
    inside))
