use Rattle.kept_jobs.specs.Telling.{telling}
use Rattle.kept_jobs.proofs.Lives.{lives_keep}
use Rattle.kept_jobs.proofs.laws.answers_are_kept.Goals as goal

pub returns : goal.returns
returns g c = λ job grows.
    let d = g.D.Disk in
    lives_keep g.C.Chronicle.work g.met.C.Chronicle.lawful (telling d.bytes d.images d.moment d.left_since d.faults)
    job grows
