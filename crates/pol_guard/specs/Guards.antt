-- What contracts see of a guard.
use Rattle.std.specs.Prelude.{Ok}
use Rattle.pol_core.specs.Plants.{plant_history}
use Rattle.pol_policy.specs.PlainPolicy.{plain_policy}
use Rattle.pol_guard.specs.Work.{Known, waiting, begun}
use Rattle.pol_guard.specs.declared.guarding.Guard.{Guard}
use Rattle.pol_guard.specs.declared.guarding.Guard.TheVariants.{Waiting, Begun}
use Rattle.pol_guard.specs.declared.replying.GuardedPlant.{GuardedPlant}

-- what is known of a plant behind a policy
abbrev pub known_behind : GuardedPlant → Known
known_behind guarded = begun (Ok (plain_policy guarded.policy)) (plant_history guarded.plant)

-- what a guard knows
abbrev pub known_by : Guard → Known
known_by Waiting = waiting
known_by (Begun guarded) = known_behind guarded
