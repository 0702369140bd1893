use Rattle.std.proofs.lemmas.Result.{err_from_is_err_and}
use Rattle.pol_jobs.specs.Ends.{edge}
use Rattle.pol_stream.proofs.Inputs.{closed_ends, unclosed_ends}
use Rattle.pol_cli.specs.Attests.{attested_text}
use Rattle.pol_cli.proofs.Attesting.{some_told}
use Rattle.pol_cli.proofs.jobs.attesting.attest.Goals as goal

pub returns : goal.returns
returns g c =
    let s = g.S.Source in
    let k = g.K.Sink in
    closed_ends attested_text (edge (s.left c.args.source.now) (s.faults c.args.source.now))
    (edge (s.left c.read_input.new.source) (s.faults c.read_input.new.source))
    (edge (k.held c.args.sink.now) (k.faults c.args.sink.now)) c.in_ok-bytes.bytes.items c.in_ok-bytes.ensures.all
    c.in_ok-bytes.ensures.fits c.in_ok-bytes.ensures.well
    (edge (k.held c.close_with.new.sink) (k.faults c.close_with.new.sink))
    (c.in_ok-close_with.ensures.text (attested_text c.in_ok-bytes.bytes.items) c.attested_text.ensures)
    c.in_ok-close_with.ensures.cause.done

pub returns-in_err-bytes : goal.returns-in_err-bytes
returns-in_err-bytes g c =
    let fault = err_from_is_err_and c.from_residual.result c.from_residual.ensures.1 in
    let k = g.K.Sink in
    rw (fault.1, fault.2) (c.in_err-bytes.ensures.ends attested_text
    (edge (k.held c.args.sink.now) (k.faults c.args.sink.now)))

pub returns-in_err-close_with : goal.returns-in_err-close_with
returns-in_err-close_with g c =
    let fault = err_from_is_err_and c.from_residual-in_err-close_with.result
    c.from_residual-in_err-close_with.ensures.1 in
    let s = g.S.Source in
    let k = g.K.Sink in
    let bytes = c.in_ok-bytes.bytes.items in
    rw (fault.1, fault.2) (unclosed_ends attested_text (edge (s.left c.args.source.now) (s.faults c.args.source.now))
    (edge (s.left c.read_input.new.source) (s.faults c.read_input.new.source))
    (edge (k.held c.args.sink.now) (k.faults c.args.sink.now)) bytes c.in_ok-bytes.ensures.all
    c.in_ok-bytes.ensures.fits c.in_ok-bytes.ensures.well
    (edge (k.held c.close_with.new.sink) (k.faults c.close_with.new.sink))
    (c.in_err-close_with.ensures.part (attested_text bytes) c.attested_text.ensures (some_told bytes))
    c.in_err-close_with.field-0.0 c.in_err-close_with.ensures.cause)
