-- What is written nests no deeper than its form.
use Rattle.std.proofs.Common.{◌≤◌, ℕ, List, arith, max}
use Rattle.serde_json.specs.Data.{depth}
use Rattle.mtp_assembly.specs.Plain.{PlainParam, PlainVariable}
use Rattle.mtp_assembly.specs.declared.param.ParamKind.{ParamKind}
use Rattle.mtp_assembly.specs.declared.param.ParamKind.TheVariants.{Ana, DInt, Bin, Text}
use Rattle.mtp_json.proofs.Again.{items_depth_below}
use Rattle.mtp_desc.specs.Plain.{PlainProcedure, PlainService, PlainDescription}
use Rattle.desc_json.specs.Written.{written_kind, written_param, written_variable, written_procedure, written_service, written_description}

-- the kind of a parameter is one level deep
kind_depth : (named : List ℕ) (kind : ParamKind) → depth (written_kind named kind) ≤ 1
kind_depth named (Ana min max) = omega arith
kind_depth named (DInt min max) = omega arith
kind_depth named Bin = omega arith
kind_depth named Text = omega arith

-- and so is a parameter
param_depth : (param : PlainParam) → depth (written_param param) ≤ 1
unfolding written_param
param_depth param = kind_depth param.name param.kind

-- and a variable
variable_depth : (variable : PlainVariable) → depth (written_variable variable) ≤ 1
unfolding written_variable
variable_depth variable = omega arith

-- a procedure is three levels deep
procedure_depth : (procedure : PlainProcedure) → depth (written_procedure procedure) ≤ 3
unfolding written_procedure
procedure_depth procedure = omega (arith, items_depth_below written_param 1 param_depth procedure.params)

-- a service five
service_depth : (service : PlainService) → depth (written_service service) ≤ 5
unfolding written_service
service_depth service = omega (arith, items_depth_below written_procedure 3 procedure_depth service.procedures)

-- a written description nests at most seven deep
pub description_depth : (description : PlainDescription) → depth (written_description description) ≤ 7
unfolding written_description
description_depth description =
    omega (
      arith,
      items_depth_below written_service 5 service_depth description.services,
      items_depth_below
          written_variable 1 variable_depth description.variables,
    )
