use Rattle.std.proofs.lemmas.Result.{err_from_is_err_and}
use Rattle.pol_events.specs.Events.{plain_history}
use Rattle.pol_jobs.proofs.Written.{none_written}
use Rattle.pol_record.specs.Lines.{closing_text}
use Rattle.pol_replay.proofs.BatchLines.{some_closing}
use Rattle.pol_replay.proofs.closing.close.Goals as goal

pub returns-in_err-line-clause-part : goal.returns-in_err-line-clause-part
returns-in_err-line-clause-part g c =
    let fault = err_from_is_err_and c.from_residual.result c.from_residual.ensures.1 in
    rw fault.1 (none_written _ (closing_text (plain_history c.args.history.now))
    (some_closing (plain_history c.args.history.now)))
