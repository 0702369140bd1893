use Rattle.std.proofs.lemmas.Result.{IfOk-weaker}
use Rattle.pol_audit.specs.Audits.{plain_audit}
use Rattle.pol_audit.proofs.Audited.{exactly}
use Rattle.pol_audit.proofs.audit.Audit.verdict.Goals as goal

pub returns-clause-exact : goal.returns-clause-exact
returns-clause-exact c lines is =
    IfOk-weaker c.found.result _ _ (λ found value. exactly (plain_audit c.args.self.now) found lines is value)
    c.found.ensures
