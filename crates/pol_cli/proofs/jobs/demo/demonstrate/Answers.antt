use Rattle.std.proofs.lemmas.Result.{err_from_is_err_and}
use Rattle.pol_demo.specs.Summary.{demo_output}
use Rattle.pol_demo.proofs.Lines.{some_output}
use Rattle.pol_jobs.specs.Ends.{edge}
use Rattle.pol_cli.proofs.Ending.{demo_broken, demo_done}
use Rattle.pol_cli.proofs.jobs.demo.demonstrate.Goals as goal

pub returns : goal.returns
returns g c =
    demo_done c.args.seed (edge (g.K.Sink.held c.args.sink.now) (g.K.Sink.faults c.args.sink.now))
    (edge (g.K.Sink.held c.close_with.new.sink) (g.K.Sink.faults c.close_with.new.sink))
    (c.in_ok-close_with.ensures.text (demo_output c.args.seed) c.demo_line.ensures)
    c.in_ok-close_with.ensures.cause.done

pub returns-in_err-close_with : goal.returns-in_err-close_with
returns-in_err-close_with g c =
    let fault = err_from_is_err_and c.from_residual.result c.from_residual.ensures.1 in
    rw (fault.1, fault.2) (demo_broken c.args.seed
    (edge (g.K.Sink.held c.args.sink.now) (g.K.Sink.faults c.args.sink.now))
    (edge (g.K.Sink.held c.close_with.new.sink) (g.K.Sink.faults c.close_with.new.sink)) c.in_err-close_with.field-0.0
    (c.in_err-close_with.ensures.part (demo_output c.args.seed) c.demo_line.ensures (some_output c.args.seed))
    c.in_err-close_with.ensures.cause)
