use Rattle.pol_audit.specs.Audits.{plain_audit}
use Rattle.pol_audit.specs.Reading.{verdict_after}
use Rattle.pol_record.specs.Verdicts.{verdict_text}
use Rattle.pol_cli.proofs.Auditing.{some_verdict}
use Rattle.pol_cli.proofs.jobs.auditing.AuditingLineJob.close.Goals as goal

pub returns-clause-text : goal.returns-clause-text
returns-clause-text g c =
    c.close_with.ensures.text (verdict_text (verdict_after (plain_audit c.args.self.now.audit))) c.line_of.ensures

pub returns-clause-part : goal.returns-clause-part
returns-clause-part g c =
    let verdict = verdict_after (plain_audit c.args.self.now.audit) in
    c.close_with.ensures.part (verdict_text verdict) c.line_of.ensures (some_verdict verdict)
