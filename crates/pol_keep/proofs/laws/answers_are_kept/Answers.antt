use Rattle.kept_jobs.specs.Telling.{telling}
use Rattle.kept_jobs.proofs.Lives.{lives_keep}
use Rattle.pol_store.specs.Lawful.{plants_are_lawful}
use Rattle.pol_store.specs.Work.{plant_work}
use Rattle.pol_keep.specs.Keeping.{plant_job}
use Rattle.pol_keep.proofs.Running.{keeps_old}
use Rattle.pol_keep.proofs.laws.answers_are_kept.Goals as goal

pub returns : goal.returns
returns g c =
    let d = g.D.Disk in
    lives_keep plant_work plants_are_lawful (telling d.bytes d.images d.moment d.left_since d.faults) plant_job
    keeps_old
