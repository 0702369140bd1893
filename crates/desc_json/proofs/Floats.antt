-- What is written has no float.
use Rattle.std.proofs.Common.{◌≡◌, ℕ, false, List, refl}
use Rattle.serde_json.specs.Written.{has_float}
use Rattle.mtp_assembly.specs.Plain.{PlainParam, PlainVariable}
use Rattle.mtp_assembly.specs.declared.param.ParamKind.{ParamKind}
use Rattle.mtp_assembly.specs.declared.param.ParamKind.TheVariants.{Ana, DInt, Bin, Text}
use Rattle.mtp_json.proofs.Again.{of_integer_whole, items_whole}
use Rattle.mtp_desc.specs.Plain.{PlainProcedure, PlainService, PlainDescription}
use Rattle.desc_json.specs.Written.{written_kind, written_param, written_variable, written_procedure, written_service, written_description}

-- the kind of a parameter has no number with a point
kind_whole : (named : List ℕ) (kind : ParamKind) → has_float (written_kind named kind) ≡ false
kind_whole named (Ana min max) = rw (of_integer_whole max, of_integer_whole min) refl
kind_whole named (DInt min max) = rw (of_integer_whole max, of_integer_whole min) refl
kind_whole named Bin = refl
kind_whole named Text = refl

-- nor has a parameter
param_whole : (param : PlainParam) → has_float (written_param param) ≡ false
unfolding written_param
param_whole param = kind_whole param.name param.kind

-- nor a variable
variable_whole : (variable : PlainVariable) → has_float (written_variable variable) ≡ false
unfolding written_variable
variable_whole variable = refl

-- nor a procedure
procedure_whole : (procedure : PlainProcedure) → has_float (written_procedure procedure) ≡ false
unfolding written_procedure
procedure_whole procedure = rw (items_whole written_param param_whole procedure.params) refl

-- nor a service
service_whole : (service : PlainService) → has_float (written_service service) ≡ false
unfolding written_service
service_whole service = rw (items_whole written_procedure procedure_whole service.procedures) refl

-- a written description has no float, so its compact text is exact
pub description_whole : (description : PlainDescription) → has_float (written_description description) ≡ false
unfolding written_description
description_whole description =
    rw (
      items_whole written_service service_whole description.services,
      items_whole written_variable variable_whole
          description.variables,
    ) refl
