-- Every parameter, variable, procedure and service is in its form, by what its type keeps.
use Rattle.std.proofs.Common.{◌≡◌, ◌&&◌, Bool, true, false, not, Ok, List, [], ◌∷◌, length, map, refl}
use Rattle.std.proofs.lemmas.List.{length-map}
use Rattle.std.specs.Prelude.{nat_le}
use Rattle.std.specs.List.{list_all}
use Rattle.mtp_codes.specs.Names.{is_name}
use Rattle.mtp_codes.specs.Numbers.{is_between}
use Rattle.mtp_assembly.specs.Kinds.{is_ordered}
use Rattle.mtp_assembly.specs.Plain.{PlainParam, PlainVariable, plain_param, plain_variable}
use Rattle.mtp_assembly.specs.declared.param.Param.{Param}
use Rattle.mtp_assembly.specs.declared.variable.View.{View}
use Rattle.mtp_codes.specs.Repeats.{repeats_by}
use Rattle.mtp_desc.specs.declared.limits.TheConstants.{MOST_SERVICES, MOST_PROCEDURES, MOST_PARAMS, MOST_VARIABLES, LONGEST_VERSION, GREATEST_PROCEDURE}
use Rattle.mtp_desc.specs.declared.description.Description.{Description}
use Rattle.mtp_desc.specs.declared.procedure.Procedure.{Procedure}
use Rattle.mtp_desc.specs.declared.service.Service.{Service}
use Rattle.mtp_desc.specs.PlainDescription.{plain_description}
use Rattle.mtp_desc.specs.Plain.{has_one_default}
use Rattle.mtp_desc.specs.Plain.{PlainProcedure, PlainService, PlainDescription, same_param, same_procedure, same_service, same_variable}
use Rattle.mtp_desc.specs.PlainProcedure.{plain_procedure}
use Rattle.mtp_desc.specs.PlainService.{plain_service}
use Rattle.mtp_desc.specs.Version.{version_of}

-- the parameter has a name, and its range is in order
abbrev pub is_param : PlainParam → Bool
is_param param = is_name param.name && is_ordered param.kind

-- the variable has a name
abbrev pub is_variable : PlainVariable → Bool
is_variable variable = is_name variable.name

-- the procedure has a number, and few parameters, no two of one name
abbrev pub is_procedure : PlainProcedure → Bool
is_procedure procedure =
    is_between 1 GREATEST_PROCEDURE procedure.number
    && (is_between 0 MOST_PARAMS (length procedure.params)
    && (list_all is_param procedure.params && not (repeats_by same_param procedure.params)))

-- the service has a name, and some procedures, no two of one number and one of them the default
abbrev pub is_service : PlainService → Bool
is_service service =
    is_name service.name && (is_between 1 MOST_PROCEDURES (length service.procedures)
    && (list_all is_procedure service.procedures
    && (not (repeats_by same_procedure service.procedures) && has_one_default service.procedures)))

-- where every item is in its form, so is each of a list
pub all_sound : {X Y : Type 0} (view : X → Y) (test : Y → Bool) → ((x : X) → test (view x) ≡ true) → (xs : List X)
    → list_all test (map view xs) ≡ true
all_sound view test sound [] = refl
all_sound view test sound (x ∷ xs) = rw (sound x, all_sound view test sound xs) refl

-- a parameter is in form by its type
pub param_sound : (param : Param) → is_param (plain_param param) ≡ true
param_sound param = rw (param.named, param.ordered) refl

-- and so is a variable
pub variable_sound : (variable : View) → is_variable (plain_variable variable) ≡ true
variable_sound variable = variable.named

-- a procedure
pub procedure_sound : (procedure : Procedure) → is_procedure (plain_procedure procedure) ≡ true
procedure_sound procedure =
    rw (
      length-map procedure.params.items plain_param,
      procedure.numbered,
      procedure.few,
      all_sound plain_param is_param
          param_sound procedure.params.items,
      procedure.unlike,
    ) refl

-- a service
pub service_sound : (service : Service) → is_service (plain_service service) ≡ true
service_sound service =
    rw (
      length-map service.procedures.items plain_procedure,
      service.named,
      service.few,
      all_sound plain_procedure
          is_procedure procedure_sound service.procedures.items,
      service.unlike,
      service.one_default,
    ) refl

-- what a description is, beside being well formed in its parts
pub record IsDescription (description : PlainDescription) : Type 0 where
  pub typed : is_name description.type_name ≡ true
  pub short : nat_le (length description.version_text) LONGEST_VERSION ≡ true
  pub versioned : version_of description.version_text ≡ Ok description.version
  pub some_services : is_between 1 MOST_SERVICES (length description.services) ≡ true
  pub services : list_all is_service description.services ≡ true
  pub unlike_services : repeats_by same_service description.services ≡ false
  pub few_variables : is_between 0 MOST_VARIABLES (length description.variables) ≡ true
  pub variables : list_all is_variable description.variables ≡ true
  pub unlike_variables : repeats_by same_variable description.variables ≡ false

-- and so a whole description
pub description_sound : (description : Description) → IsDescription (plain_description description)
description_sound description = record {
  typed = description.typed;
  short = description.short;
  versioned = description.versioned;
  some_services = rw (length-map description.services.items plain_service) description.some_services;
  services = all_sound plain_service is_service service_sound description.services.items;
  unlike_services = description.unlike_services;
  few_variables = rw (length-map description.variables.items plain_variable) description.few_variables;
  variables = all_sound plain_variable is_variable variable_sound description.variables.items;
  unlike_variables = description.unlike_variables;
}
