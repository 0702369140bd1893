use Rattle.pol_cli.proofs.PlantEnding.{plant_ends}
use Rattle.pol_cli.proofs.jobs.plant.live.Goals as goal

pub returns-clause-ends : goal.returns-clause-ends
returns-clause-ends g c =
    rw c.status_wanting.ensures (plant_ends _ _ c.read_and_run-done.result c.read_and_run-done.ensures.ends
    c.read_and_run-done.ensures.writes c.read_and_run-done.ensures.unbegun)
