use Rattle.kept_jobs.specs.Telling.{telling}
use Rattle.kept_jobs.proofs.Lives.{lives_keep}
use Rattle.pol_ledger.specs.Lawful.{ledgers_are_lawful}
use Rattle.pol_ledger.specs.Work.{ledger_work}
use Rattle.pol_operate.specs.Kept.{operate_job}
use Rattle.pol_operate.proofs.Lives.{keeps_old}
use Rattle.pol_operate.proofs.laws.answers_are_kept.Goals as goal

pub returns : goal.returns
returns g c =
    let d = g.D.Disk in
    lives_keep ledger_work ledgers_are_lawful (telling d.bytes d.images d.moment d.left_since d.faults) operate_job
    keeps_old
