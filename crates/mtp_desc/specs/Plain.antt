-- Descriptions as plain data.
use Rattle.std.specs.Prelude.{ℕ, ◌==◌, List, Bool, count_by}
use Rattle.std.specs.Str.{bytes_eq}
use Rattle.semver.specs.Parse.{Parts}
use Rattle.mtp_assembly.specs.Plain.{PlainParam, PlainVariable}

-- a procedure of a service: its number, whether it is the service's default, whether it completes by itself, what it
-- takes
pub record PlainProcedure : Type 0 where
  pub number : ℕ
  pub is_default : Bool
  pub self_completing : Bool
  pub params : List PlainParam

-- a service: its name and its procedures
pub record PlainService : Type 0 where
  pub name : List ℕ
  pub procedures : List PlainProcedure

-- a description: the module's type, the text of its version with what semver reads of it, its services and its
-- variables
pub record PlainDescription : Type 0 where
  pub type_name : List ℕ
  pub version_text : List ℕ
  pub version : Parts
  pub services : List PlainService
  pub variables : List PlainVariable

-- two parameters of one name
abbrev pub same_param : PlainParam → PlainParam → Bool
same_param param other = bytes_eq param.name other.name

-- two procedures of one number
abbrev pub same_procedure : PlainProcedure → PlainProcedure → Bool
same_procedure procedure other = procedure.number == other.number

-- exactly one procedure is the default
abbrev pub has_one_default : List PlainProcedure → Bool
has_one_default procedures = count_by (λ procedure. procedure.is_default) procedures == 1

-- two services of one name
abbrev pub same_service : PlainService → PlainService → Bool
same_service service other = bytes_eq service.name other.name

-- two variables of one name
abbrev pub same_variable : PlainVariable → PlainVariable → Bool
same_variable variable other = bytes_eq variable.name other.name
