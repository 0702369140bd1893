use Rattle.pol_jobs.proofs.Ending.{completes, work_ends}
use Rattle.pol_jobs.proofs.lines.work.Goals as goal

pub returns-clause-complete : goal.returns-clause-complete
returns-clause-complete g c =
    let did = c.reply_and_close.ensures in
    completes _ _ _ _ _ c.reply_and_close.result (work_ends _ _ _ _ _ c.reply_and_close.result did.output did.leaves
    did.too_much did.read_cause did.write_cause)
