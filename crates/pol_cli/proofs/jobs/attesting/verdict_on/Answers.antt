use Rattle.std.proofs.Common.{ap, ◌∙◌}
use Rattle.std.proofs.lemmas.Result.{IfOk-weaker}
use Rattle.pol_io.specs.Scripted.{Scripted}
use Rattle.pol_jobs.specs.LineWork.{output_by}
use Rattle.pol_cli.specs.Audits.{audit_work}
use Rattle.pol_cli.proofs.Attesting.{verdict_written}
use Rattle.pol_cli.proofs.Auditing.{audit_output}
use Rattle.pol_cli.proofs.jobs.attesting.verdict_on.Goals as goal

pub returns-in-Ok : goal.returns-in-Ok
returns-in-Ok c =
    IfOk-weaker c.held_by.result _ _
    (λ text is. is ∙ verdict_written _ (ap (output_by audit_work) c.new-3.ensures ∙ audit_output) c.new-source.result
    c.work.new.source c.new-sink.result c.work.new.sink c.args.bytes.items
    (ap (λ (source : Scripted). source.bytes) c.new-source.ensures)
    (ap (λ (sink : Scripted). sink.bytes) c.new-sink.ensures) c.in-Ok.ensures.ends) c.held_by.ensures
