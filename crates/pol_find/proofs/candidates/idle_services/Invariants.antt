-- The services so far and the idle ones of those that are left are all.
use Rattle.std.proofs.Common.{◌≡◌, ◌++◌, drop}
use Rattle.mtp_desc.specs.PlainDescription.{plain_description}
use Rattle.pol_core.specs.Plants.{plant_history}
use Rattle.pol_find.specs.Candidates.{idle_services}
use Rattle.pol_find.proofs.Idle.{idle_of}
use Rattle.pol_find.proofs.candidates.idle_services.Given as goal

abbrev pub invariant-loop-service : goal.invariant-loop-service
invariant-loop-service l =
    l.idle.items ++ idle_of (plant_history l.plant) l.tag (drop l.service-index l.service-items)
    ≡ idle_services (plant_history l.plant) l.tag (plain_description l.description)
