use Rattle.std.proofs.lemmas.Result.{err_from_is_err_and}
use Rattle.pol_events.specs.Events.{plain_event}
use Rattle.pol_journal.proofs.Handed.{unput}
use Rattle.pol_journal.proofs.writing.put_one.Goals as goal

pub returns-in_err-put_event_line-clause-part : goal.returns-in_err-put_event_line-clause-part
returns-in_err-put_event_line-clause-part g c =
    let fault = err_from_is_err_and c.from_residual.result c.from_residual.ensures.1 in
    rw fault.1 (unput (g.K.Sink.held c.args.sink.now) c.args.lines.now.items (plain_event c.args.entry.now.event))
