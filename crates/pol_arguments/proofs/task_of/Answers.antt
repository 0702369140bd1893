use Rattle.pol_arguments.proofs.task_of.Goals as goal

pub returns-in-Watched-None-default : goal.returns-in-Watched-None-default
returns-in-Watched-None-default c =
    rw (c.in-Watched-None-default.is-0, c.in-Watched-None-default.is-1) c.plant_of.ensures
