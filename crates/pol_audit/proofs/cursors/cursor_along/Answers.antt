use Rattle.std.proofs.Common.{◌∷◌, [], ◌++◌, ◌∙◌, ap, subst, sym, take, take_all}
use Rattle.std.proofs.lemmas.List.{take_more}
use Rattle.chart_core.specs.Charts.{plain_chart}
use Rattle.chart_core.specs.Standing.{AreAfter}
use Rattle.pol_audit.proofs.cursors.cursor_along.Goals as goal

pub loop-entry-preserved : goal.loop-entry-preserved
loop-entry-preserved c =
    let run = c.args.run.now in
    let place = c.loop-entry.entry-index in (
      c.go_along.ensures.chart ∙ c.loop-entry.invariant.0,
      subst (AreAfter (plain_chart c.go_along.new.self.chart) c.go_along.new.self.marks)
          (sym (take_more run place c.entry-item.result c.loop-entry-test.true
          ∙ ap (λ read. take place run ++ read ∷ []) (sym c.entry-item.is)))
          (c.go_along.ensures.log (take place run) c.loop-entry.invariant.1),
    )

pub returns-clause-along : goal.returns-clause-along
returns-clause-along c =
    subst (AreAfter (plain_chart c.loop-entry.cursor.chart) c.loop-entry.cursor.marks)
    (take_all c.loop-entry.entry-index c.args.run.now c.loop-entry-test.false) c.loop-entry.invariant.1
