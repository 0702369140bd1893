-- The tokens so far and those of the services that are left are all.
use Rattle.std.proofs.Common.{◌≡◌, ◌++◌, drop, map}
use Rattle.mtp_desc.specs.PlainService.{plain_service}
use Rattle.pol_core.specs.Plants.{plant_history}
use Rattle.pol_record.specs.Objects.{data_tokens}
use Rattle.pol_overview.specs.Lists.{each_data}
use Rattle.pol_overview.specs.Modules.{service_data}
use Rattle.pol_overview.proofs.Places.{rest_tokens}
use Rattle.pol_overview.proofs.services.write_services.Given as goal

abbrev pub invariant-loop-service : goal.invariant-loop-service
invariant-loop-service g l = record {
  tokens : l.writer.tokens
      ++ rest_tokens (service_data (g.A.Allowing.allows l.allowing) (plant_history l.plant) l.tag)
      (map plain_service (drop l.service-index l.services))
      ≡ l.fn.writer.tokens
      ++ data_tokens (each_data (service_data (g.A.Allowing.allows l.allowing) (plant_history l.plant) l.tag)
      (map plain_service l.services));
  before : l.writer.before ≡ l.fn.writer.before;
}
