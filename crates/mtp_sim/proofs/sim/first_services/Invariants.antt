use Rattle.std.specs.Prelude.{◌≡◌, map, take}
use Rattle.mtp_desc.specs.PlainService.{plain_service}
use Rattle.mtp_sim.specs.Sims.{first_service}
use Rattle.mtp_sim.proofs.sim.first_services.Given as goal

abbrev pub invariant-loop-service : goal.invariant-loop-service
invariant-loop-service l = l.first.items ≡ map (λ service. first_service service.name)
    (map plain_service (take l.service-index l.services))
