-- What is written is read back.
use Rattle.std.proofs.Common.{◌≡◌, ◌&&◌, ℕ, true, not, List, length, Ok, refl}
use Rattle.std.specs.Prelude.{int_lt}
use Rattle.std.specs.List.{list_all}
use Rattle.std.proofs.lemmas.Bool.{and_parts, not-true}
use Rattle.mtp_codes.specs.Numbers.{greatest_i32, greatest_i64, is_within, least_i32, least_i64, is_between}
use Rattle.mtp_codes.specs.Names.{is_name}
use Rattle.mtp_assembly.specs.Kinds.{is_ordered}
use Rattle.mtp_assembly.specs.Plain.{PlainParam, PlainVariable}
use Rattle.mtp_assembly.specs.declared.param.ParamKind.{ParamKind}
use Rattle.mtp_assembly.specs.declared.param.ParamKind.TheVariants.{Ana, DInt, Bin, Text}
use Rattle.mtp_assembly.specs.declared.variable.ViewKind.{ViewKind}
use Rattle.mtp_assembly.specs.declared.variable.ViewKind.TheVariants as variable
use Rattle.mtp_codes.specs.Repeats.{repeats_by}
use Rattle.mtp_json.proofs.Again.{whole_again, each_again, len_again}
use Rattle.mtp_desc.specs.declared.limits.TheConstants.{MOST_PROCEDURES, MOST_PARAMS, GREATEST_PROCEDURE}
use Rattle.desc_json.specs.Form.{ranged_param, free_param, param_of, procedure_of, ruled_service, service_of, variable_of, description_of}
use Rattle.mtp_desc.specs.Plain.{has_one_default}
use Rattle.mtp_desc.specs.Plain.{PlainProcedure, PlainService, PlainDescription, same_param, same_procedure}
use Rattle.desc_json.specs.Written.{written_param, written_variable, written_procedure, written_service, written_description}
use Rattle.mtp_desc.proofs.Sound.{is_param, is_variable, is_procedure, is_service, IsDescription}

-- the kind of a parameter is read back with its name
kind_again : (named : List ℕ) (kind : ParamKind) → is_name named ≡ true → is_ordered kind ≡ true
    → param_of (written_param (record { name = named; kind = kind })) ≡ Ok (record { name = named; kind = kind })
unfolding param_of written_param ranged_param free_param
kind_again named (Ana min max) is ordered =
    let low = and_parts (is_within least_i64 greatest_i64 min)
    (is_within least_i64 greatest_i64 max && not (int_lt max min)) ordered in
    let high = and_parts (is_within least_i64 greatest_i64 max) (not (int_lt max min)) low.1 in
    rw (is, whole_again min, low.0, whole_again max, high.0, not-true (int_lt max min) high.1) refl
kind_again named (DInt min max) is ordered =
    let low = and_parts (is_within least_i32 greatest_i32 min)
    (is_within least_i32 greatest_i32 max && not (int_lt max min)) ordered in
    let high = and_parts (is_within least_i32 greatest_i32 max) (not (int_lt max min)) low.1 in
    rw (is, whole_again min, low.0, whole_again max, high.0, not-true (int_lt max min) high.1) refl
kind_again named Bin is ordered = rw is refl
kind_again named Text is ordered = rw is refl

-- so is a parameter
pub param_again : (param : PlainParam) → is_param param ≡ true → param_of (written_param param) ≡ Ok param
param_again param sound = let parts = and_parts (is_name param.name) (is_ordered param.kind) sound in
    kind_again param.name param.kind parts.0 parts.1

-- the kind of a variable is read back with its name
variable_kind_again : (named : List ℕ) (kind : ViewKind) → is_name named ≡ true
    → variable_of (written_variable (record { name = named; kind = kind })) ≡ Ok (record { name = named; kind = kind })
unfolding variable_of written_variable
variable_kind_again named variable.Ana is = rw is refl
variable_kind_again named variable.DInt is = rw is refl
variable_kind_again named variable.Bin is = rw is refl
variable_kind_again named variable.Text is = rw is refl

-- so is a variable
pub variable_again : (variable : PlainVariable) → is_variable variable ≡ true
    → variable_of (written_variable variable) ≡ Ok variable
variable_again variable sound = variable_kind_again variable.name variable.kind sound

-- a procedure
pub procedure_again : (procedure : PlainProcedure) → is_procedure procedure ≡ true
    → procedure_of (written_procedure procedure) ≡ Ok procedure
unfolding procedure_of written_procedure
procedure_again procedure sound =
    let numbered = and_parts (is_between 1 GREATEST_PROCEDURE procedure.number)
    (is_between 0 MOST_PARAMS (length procedure.params)
    && (list_all is_param procedure.params && not (repeats_by same_param procedure.params))) sound in
    let few = and_parts (is_between 0 MOST_PARAMS (length procedure.params))
    (list_all is_param procedure.params && not (repeats_by same_param procedure.params)) numbered.1 in
    let each = and_parts (list_all is_param procedure.params) (not (repeats_by same_param procedure.params)) few.1 in
    rw (
      numbered.0,
      len_again written_param procedure.params,
      few.0,
      each_again param_of written_param is_param
          param_again 0 procedure.params each.0,
      not-true (repeats_by same_param procedure.params) each.1,
    ) refl

-- and a service
pub service_again : (service : PlainService) → is_service service ≡ true
    → service_of (written_service service) ≡ Ok service
unfolding service_of ruled_service written_service
service_again service sound =
    let named = and_parts (is_name service.name)
    (is_between 1 MOST_PROCEDURES (length service.procedures)
    && (list_all is_procedure service.procedures
    && (not (repeats_by same_procedure service.procedures) && has_one_default service.procedures))) sound in
    let few = and_parts (is_between 1 MOST_PROCEDURES (length service.procedures))
    (list_all is_procedure service.procedures
    && (not (repeats_by same_procedure service.procedures) && has_one_default service.procedures)) named.1 in
    let each = and_parts (list_all is_procedure service.procedures)
    (not (repeats_by same_procedure service.procedures) && has_one_default service.procedures) few.1 in
    let ruled = and_parts (not (repeats_by same_procedure service.procedures))
    (has_one_default service.procedures) each.1 in
    rw (
      named.0,
      len_again written_procedure service.procedures,
      few.0,
      each_again procedure_of written_procedure
          is_procedure procedure_again 0 service.procedures each.0,
      not-true
          (repeats_by same_procedure service.procedures) ruled.0,
      ruled.1,
    ) refl

-- a description that is written is read back
pub description_again : (description : PlainDescription) → IsDescription description
    → description_of (written_description description) ≡ Ok description
unfolding description_of written_description
description_again description is =
    rw (
      is.typed,
      is.short,
      is.versioned,
      len_again written_service description.services,
      is.some_services,
      each_again service_of written_service is_service service_again 0 description.services is.services,
      len_again written_variable description.variables,
      is.few_variables,
      each_again variable_of written_variable is_variable variable_again 0 description.variables is.variables,
      is.unlike_services,
      is.unlike_variables,
    ) refl
