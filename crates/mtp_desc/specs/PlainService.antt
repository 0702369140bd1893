-- What contracts see of a service.
use Rattle.std.specs.Prelude.{map}
use Rattle.mtp_desc.specs.declared.service.Service.{Service}
use Rattle.mtp_desc.specs.Plain.{PlainService}
use Rattle.mtp_desc.specs.PlainProcedure.{plain_procedure}

-- a service as plain data
abbrev pub plain_service : Service → PlainService
plain_service service = record { name = service.name; procedures = map plain_procedure service.procedures.items }
