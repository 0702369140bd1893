use Rattle.std.proofs.Common.{◌∙◌, ap, sym}
use Rattle.chart_core.specs.Charts.{plain_chart}
use Rattle.chart_cursor.specs.NextEntry.{run_next}
use Rattle.pol_audit.specs.HeldSteps.{plain_sights}
use Rattle.pol_audit.specs.Starts.{active_seen}
use Rattle.pol_audit.proofs.Steps.{goes_on}
use Rattle.pol_audit.proofs.following.next_of_steps.Goals as goal

pub returns : goal.returns
returns c =
    let seen = plain_sights c.args.seen.now in
    let log = c.args.log.now.whole.now in
    let chart = plain_chart c.args.cursor.now.chart in
    let running = active_seen log c.args.steps.now in
    c.run_next.ensures
    ∙ ap run_next c.unhold_or_run.ensures
    ∙ goes_on chart log seen running c.requires.steps
    (sym c.has_broken-broken.ensures ∙ c.if-broken.false)
    (sym c.was_stopped.ensures ∙ c.if-was_stopped.false)
    (sym c.first_broken.ensures ∙ c.in_default.is)
