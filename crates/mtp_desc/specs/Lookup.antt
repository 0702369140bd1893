-- Looking into a description.
use Rattle.std.specs.Prelude.{ℕ, ◌==◌, List, Bool, false, Option, Some, None, find, position, option_and_then}
use Rattle.std.specs.Str.{bytes_eq}
use Rattle.mtp_assembly.specs.Plain.{PlainParam, PlainVariable}
use Rattle.mtp_desc.specs.Plain.{PlainProcedure, PlainService, PlainDescription}

-- the service of this name, if there is one
abbrev pub service_named : List ℕ → PlainDescription → Option PlainService
service_named named description = find (λ service. bytes_eq service.name named) description.services

-- the place of the service of this name among the services, from 0
abbrev pub service_place : List ℕ → PlainDescription → Option ℕ
service_place named description = position (λ service. bytes_eq service.name named) description.services

-- the variable of this name, if there is one
abbrev pub variable_named : List ℕ → PlainDescription → Option PlainVariable
variable_named named description = find (λ variable. bytes_eq variable.name named) description.variables

-- the place of the variable of this name among the variables, from 0
abbrev pub variable_place : List ℕ → PlainDescription → Option ℕ
variable_place named description = position (λ variable. bytes_eq variable.name named) description.variables

-- the procedure of this number, if the service has it
abbrev pub procedure_numbered : ℕ → PlainService → Option PlainProcedure
procedure_numbered number service = find (λ procedure. procedure.number == number) service.procedures

-- the default procedure of a service
abbrev pub default_procedure : PlainService → Option PlainProcedure
default_procedure service = find (λ procedure. procedure.is_default) service.procedures

-- the parameter of this name, if the procedure has it
abbrev pub param_named : List ℕ → PlainProcedure → Option PlainParam
param_named named procedure = find (λ param. bytes_eq param.name named) procedure.params

-- the procedure of this number of the service of this name, if there is one
abbrev pub procedure_at : List ℕ → ℕ → PlainDescription → Option PlainProcedure
procedure_at service number description = option_and_then (procedure_numbered number)
    (service_named service description)

-- whether a procedure that was found completes by itself
abbrev pub completes_itself : Option PlainProcedure → Bool
completes_itself None = false
completes_itself (Some procedure) = procedure.self_completing

-- whether the procedure completes by itself; false where there is no such procedure
abbrev pub self_completes : List ℕ → ℕ → PlainDescription → Bool
self_completes service number description = completes_itself (procedure_at service number description)
