use Rattle.std.proofs.lemmas.Result.{err_from_is_err_and, on_err_weaker}
use Rattle.pol_events.specs.Events.{plain_history}
use Rattle.pol_cli.proofs.EntryLines.{cut_before, cut_behind}
use Rattle.pol_cli.proofs.jobs.plant.put_run.Goals as goal

pub returns-in_err-put_entries-clause-part : goal.returns-in_err-put_entries-clause-part
returns-in_err-put_entries-clause-part g c =
    let fault = err_from_is_err_and c.from_residual.result c.from_residual.ensures.1 in
    rw fault.1 (cut_before _ _ (plain_history c.args.history.now) c.in_err-put_entries.ensures.part)

pub returns-clause-part : goal.returns-clause-part
returns-clause-part g c =
    on_err_weaker c.close.result
    (λ part. cut_behind _ _ _ (plain_history c.args.history.now) c.in_ok-put_entries.ensures.text part)
    c.close.ensures.part
