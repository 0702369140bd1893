use Rattle.std.proofs.lemmas.Result.{err_from_is_err_and, on_err_weaker}
use Rattle.pol_events.specs.Events.{plain_history}
use Rattle.pol_record.specs.Texts.{batches_text}
use Rattle.pol_replay.proofs.BatchLines.{broken_at_end, broken_before}
use Rattle.pol_replay.proofs.closing.close_with.Goals as goal

pub returns-in_err-put_batches-clause-part : goal.returns-in_err-put_batches-clause-part
returns-in_err-put_batches-clause-part g c =
    let fault = err_from_is_err_and c.from_residual.result c.from_residual.ensures.1 in
    rw fault.1 (broken_before _ _ (batches_text (plain_history c.args.history.now)) c.args.last.now c.requires.some
    c.in_err-put_batches.ensures.part)

pub returns-clause-part : goal.returns-clause-part
returns-clause-part g c =
    on_err_weaker c.put.result
    (broken_at_end _ _ _ (batches_text (plain_history c.args.history.now)) c.args.last.now
    c.in_ok-put_batches.ensures.text) c.put.ensures.part
