use Rattle.pol_demo.proofs.Counts.{summed_up}
use Rattle.pol_demo.proofs.summary.summary_of.Goals as goal

pub returns : goal.returns
returns c =
    let counts = c.loop-entry.invariant in
    summed_up c.args.history.now c.loop-entry.entry-index _ _ c.loop-entry-test.false counts.closed counts.refused
