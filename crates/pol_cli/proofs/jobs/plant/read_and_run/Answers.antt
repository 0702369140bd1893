use Rattle.std.proofs.Common.{subst, sym}
use Rattle.std.proofs.lemmas.Result.{err_from_is_err_and}
use Rattle.pol_events.specs.Events.{plain_history}
use Rattle.pol_jobs.specs.Ends.{edge}
use Rattle.pol_site.specs.PlainSite.{plain_site}
use Rattle.pol_cli.specs.SiteRuns.{IsRunOf}
use Rattle.pol_cli.proofs.EntryLines.{puts_run}
use Rattle.pol_cli.proofs.PlantEnding.{run_broken, run_done}
use Rattle.pol_cli.proofs.jobs.plant.read_and_run.Goals as goal

pub returns-in_err-site-clause-ends : goal.returns-in_err-site-clause-ends
returns-in_err-site-clause-ends g c =
    let fault = err_from_is_err_and c.from_residual.result c.from_residual.ensures.1 in
    rw (fault.1, fault.2) (c.in_err-site.ensures.ends
    (edge (g.K.Sink.held c.args.sink.now) (g.K.Sink.faults c.args.sink.now)))

pub returns-in_err-put_run-clause-ends : goal.returns-in_err-put_run-clause-ends
returns-in_err-put_run-clause-ends g c =
    let fault = err_from_is_err_and c.from_residual-in_err-put_run.result c.from_residual-in_err-put_run.ensures.1 in
    let site = plain_site c.in_ok-site.site in
    let is_run = subst (λ items. IsRunOf site (plain_history items)) (sym c.deref.ensures.value)
    c.in_ok-history.ensures in
    rw (fault.1, fault.2) (run_broken site
    (edge (g.S.Source.left c.args.source.now) (g.S.Source.faults c.args.source.now))
    (edge (g.S.Source.left c.read_text.new.source) (g.S.Source.faults c.read_text.new.source))
    c.in_ok-site.ensures.says c.in_ok-site.ensures.well
    (edge (g.K.Sink.held c.args.sink.now) (g.K.Sink.faults c.args.sink.now))
    (edge (g.K.Sink.held c.put_run.new.sink) (g.K.Sink.faults c.put_run.new.sink)) c.in_err-put_run.field-0.0
    (record {
      history = plain_history c.deref.result.now;
      is_run = is_run;
      part = c.in_err-put_run.ensures.part;
    }) c.in_err-put_run.ensures.cause)

pub returns-clause-ends : goal.returns-clause-ends
returns-clause-ends g c =
    let site = plain_site c.in_ok-site.site in
    let is_run = subst (λ items. IsRunOf site (plain_history items)) (sym c.deref.ensures.value)
    c.in_ok-history.ensures in
    run_done site (edge (g.S.Source.left c.args.source.now) (g.S.Source.faults c.args.source.now))
    (edge (g.S.Source.left c.read_text.new.source) (g.S.Source.faults c.read_text.new.source))
    c.in_ok-site.ensures.says c.in_ok-site.ensures.well
    (edge (g.K.Sink.held c.args.sink.now) (g.K.Sink.faults c.args.sink.now))
    (edge (g.K.Sink.held c.put_run.new.sink) (g.K.Sink.faults c.put_run.new.sink))
    (puts_run site (g.K.Sink.held c.args.sink.now) (g.K.Sink.held c.put_run.new.sink)
    (plain_history c.deref.result.now) is_run c.in_ok-put_run.ensures.text c.in_ok-put_run.ensures.read_back
    c.in_ok-put_run.ensures.retold) c.in_ok-put_run.ensures.cause.done

pub returns-clause-writes : goal.returns-clause-writes
returns-clause-writes g c =
    let site = plain_site c.in_ok-site.site in
    let is_run = subst (λ items. IsRunOf site (plain_history items)) (sym c.deref.ensures.value)
    c.in_ok-history.ensures in
    record {
      site = site;
      says = c.in_ok-site.ensures.says;
      puts = puts_run site (g.K.Sink.held c.args.sink.now) (g.K.Sink.held c.put_run.new.sink)
          (plain_history c.deref.result.now) is_run c.in_ok-put_run.ensures.text c.in_ok-put_run.ensures.read_back
          c.in_ok-put_run.ensures.retold;
    }
