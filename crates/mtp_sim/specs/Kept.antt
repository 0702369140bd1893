-- What a simulated module keeps beside its plain data.
use Rattle.std.specs.Prelude.{ℕ, ◌≡◌, List, map}
use Rattle.mtp_sim.specs.declared.service.SimService.{SimService}
use Rattle.mtp_sim.specs.Told.{AreNext}

-- the index has the names of the services in their order, and each service is where it may be
pub record IsIndexed (names : List (List ℕ)) (services : List SimService) : Type 0 where
  pub indexed : names ≡ map (λ service. service.name) services
  pub next : AreNext services
