use Rattle.std.specs.Prelude.{◌≡◌, map, take}
use Rattle.mtp_desc.specs.PlainService.{plain_service}
use Rattle.mtp_sim.proofs.sim.names_of.Given as goal

abbrev pub invariant-loop-service : goal.invariant-loop-service
invariant-loop-service l = l.names.keys
    ≡ map (λ service. service.name) (map plain_service (take l.service-index l.services))
