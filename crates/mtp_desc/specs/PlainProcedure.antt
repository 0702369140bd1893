-- What contracts see of a procedure.
use Rattle.std.specs.Prelude.{map}
use Rattle.mtp_assembly.specs.Plain.{plain_param}
use Rattle.mtp_desc.specs.declared.procedure.Procedure.{Procedure}
use Rattle.mtp_desc.specs.Plain.{PlainProcedure}

-- a procedure as plain data
abbrev pub plain_procedure : Procedure → PlainProcedure
plain_procedure procedure = record {
  number = procedure.number;
  is_default = procedure.is_default;
  self_completing = procedure.self_completing;
  params = map plain_param procedure.params.items;
}
