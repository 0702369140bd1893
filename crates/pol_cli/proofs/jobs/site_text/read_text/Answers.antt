use Rattle.std.proofs.lemmas.Result.{err_from_is_err_and}
use Rattle.pol_jobs.specs.Ends.{edge}
use Rattle.pol_cli.proofs.PlantEnding.{no_write, unread_ends}
use Rattle.pol_cli.proofs.SiteTexts.{text_says}
use Rattle.pol_cli.proofs.jobs.site_text.read_text.Goals as goal

pub returns-clause-says : goal.returns-clause-says
returns-clause-says g c =
    text_says _ _ _ _ _ _ c.in_ok-work.ensures.ends.0 c.in_ok-work.ensures.after c.into_site.ensures

pub returns-in_err-work-clause-ends : goal.returns-in_err-work-clause-ends
returns-in_err-work-clause-ends g c =
    let fault = err_from_is_err_and c.from_residual.result c.from_residual.ensures.1 in
    rw (fault.1, fault.2) (λ sink. unread_ends
    (edge (g.S.Source.left c.args.source.now) (g.S.Source.faults c.args.source.now))
    (edge (g.S.Source.left c.work.new.source) (g.S.Source.faults c.work.new.source)) sink c.in_err-work.field-0.0
    c.in_err-work.ensures.ends)

pub returns-in_err-work-clause-unwritten : goal.returns-in_err-work-clause-unwritten
returns-in_err-work-clause-unwritten g c =
    let fault = err_from_is_err_and c.from_residual.result c.from_residual.ensures.1 in
    rw (fault.1, fault.2) (no_write
    (edge (g.S.Source.left c.args.source.now) (g.S.Source.faults c.args.source.now))
    (edge (g.S.Source.left c.work.new.source) (g.S.Source.faults c.work.new.source)) c.in_err-work.field-0.0
    c.in_err-work.ensures.ends)
