use Rattle.std.proofs.Common.{◌∙◌, ◌+◌, ap, drop}
use Rattle.chart_core.specs.Order.{plans_seen}
use Rattle.chart_core.specs.Trees.{plain_step}
use Rattle.chart_cursor.specs.OpenNodes.{first_next}
use Rattle.chart_cursor.proofs.Walked.{first_next_assoc}
use Rattle.pol_audit.specs.HeldSteps.{owed_next, plain_sights}
use Rattle.pol_audit.proofs.HeldSteps.{first_from, first_owed}
use Rattle.pol_audit.proofs.held_steps.first_unhold.Goals as goal

pub loop-step-preserved : goal.loop-step-preserved
loop-step-preserved c =
    let seen = plain_sights c.args.seen.now in
    let log = c.args.log.now.whole.now in
    let rest = first_owed seen log (plans_seen (drop (c.loop-step.step-index + 1) c.args.steps.now)) in
    ap (λ next. first_next next rest)
    (c.earlier-next.ensures ∙ ap (first_next c.loop-step.next) c.owed_next.ensures)
    ∙ first_next_assoc c.loop-step.next (owed_next seen log (plain_step c.step-item.result.now)) rest
    ∙ ap (first_next c.loop-step.next)
    (first_from seen log c.args.steps.now c.loop-step.step-index c.step-item.result c.loop-step-test.true
    c.step-item.is)
    ∙ c.loop-step.invariant
