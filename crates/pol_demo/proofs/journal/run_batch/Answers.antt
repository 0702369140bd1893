use Rattle.std.proofs.lemmas.Result.{on_ok_weaker}
use Rattle.pol_demo.proofs.Runs.{batch_told}
use Rattle.pol_demo.proofs.journal.run_batch.Goals as goal

pub returns-clause-told : goal.returns-clause-told
returns-clause-told c =
    on_ok_weaker c.dose.result
    (λ doses. batch_told c.in_ok-tag.tag c.in_ok-batch.batch c.args.sequence.now c.args.number _ _ _ _
    c.in_ok-tag.ensures
    c.in_ok-batch.ensures c.in_ok-start_batch.ensures.told c.in_ok-measure.ensures.told doses) c.dose.ensures.told
