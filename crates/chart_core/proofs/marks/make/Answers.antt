use Rattle.std.proofs.Common.{◌≡◌, ◌<◌, ◌≤◌, sym, ap, subst, arith, ◌∙◌, length}
use Rattle.chart_core.specs.Progress.{marks_of}
use Rattle.chart_core.specs.Changes.{changed, FitsIn}
use Rattle.chart_core.specs.declared.progress.Change.TheVariants.{Clear}
use Rattle.chart_core.proofs.marks.make.Goals as goal

pub returns-after-loop-i : goal.returns-after-loop-i
returns-after-loop-i c =
    let fits : (c.in-Clear.above < c.in-Clear.below) × (c.in-Clear.below ≤ length c.args.marks.now)
    = subst (FitsIn (length c.args.marks.now)) c.in-Clear.is c.requires in
    let same : c.loop-i.i ≡ c.in-Clear.below = omega arith in
    λ i. c.loop-i.invariant i ∙ ap (λ below. changed (Clear c.in-Clear.above below) (marks_of c.args.marks.now) i) same
    ∙ ap (λ change. changed change (marks_of c.args.marks.now) i) (sym c.in-Clear.is)
