use Rattle.std.proofs.Common.{◌+◌, ◌++◌, sym, ◌∙◌, ap, subst, take, drop, refl}
use Rattle.std.proofs.lemmas.List.{take-append-drop}
use Rattle.chart_core.specs.Charts.{plain_chart}
use Rattle.chart_core.specs.Runs.{IsPartial}
use Rattle.chart_core.proofs.Items.{one_more}
use Rattle.chart_runs.proofs.take_all.Goals as goal

pub returns-then-not-take_entry-clause-partial : goal.returns-then-not-take_entry-clause-partial
returns-then-not-take_entry-clause-partial c =
    λ partial.
    let log = c.args.log.now in
    let i = c.loop-entry.entry-index in
    let cut = sym (take-append-drop i log) ∙ ap (λ rest. take i log ++ rest)
    (one_more log i c.entry-item.result c.loop-entry-test.true c.entry-item.is) in
    absurd
    (c.if-not-take_entry.ensures.refused refl (take i log) (drop (i + 1) log) c.loop-entry.invariant.taken
    (subst (IsPartial (plain_chart c.args.chart.now)) cut partial))
