use Rattle.std.proofs.Common.{rules}
use Rattle.chart_cursor.proofs.going.GoingVisitor.step.Goals.{then-is_none, else-is_none}
use Rattle.chart_cursor.proofs.going.GoingVisitor.step.Goals as goal

pub returns-then-not-is_ready : goal.returns-then-not-is_ready
returns-then-not-is_ready g c =
    elim c.if-is_none.branch [
      | then-is_none w ↦
          rw (
            c.earlier-self.ensures,
            c.ready_by.ensures,
            w.self-is,
            w.broken_running-self.ensures,
            c.view-sight.ensures,
          ) (search rules)
      | else-is_none w ↦
          rw (c.earlier-self.ensures, c.ready_by.ensures, w.self-is, c.view-sight.ensures) (search rules)
    ]
