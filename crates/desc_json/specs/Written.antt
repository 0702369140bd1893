-- The written form of a description.
use Rattle.std.specs.Prelude.{ℕ, ℤ, List, codes, map}
use Rattle.serde_json.specs.Data.{Data, boolean, number, string, array, object, unsigned, no_members, member}
use Rattle.serde_json.specs.Find.{of_integer}
use Rattle.serde_json.specs.View.{items_of}
use Rattle.mtp_assembly.specs.Plain.{PlainParam, PlainVariable}
use Rattle.mtp_assembly.specs.declared.param.ParamKind.{ParamKind}
use Rattle.mtp_assembly.specs.declared.param.ParamKind.TheVariants as param
use Rattle.mtp_assembly.specs.declared.variable.ViewKind.{ViewKind}
use Rattle.mtp_assembly.specs.declared.variable.ViewKind.TheVariants as variable
use Rattle.mtp_desc.specs.Plain.{PlainProcedure, PlainService, PlainDescription}

-- a name and a kind with its least and its greatest value
abbrev pub ranged : List ℕ → List ℕ → ℤ → ℤ → Data
ranged named kind min max = object
    (member (codes "kind") (string kind)
    (member (codes "max") (number (of_integer max))
    (member (codes "min") (number (of_integer min))
    (member (codes "name") (string named) no_members))))

-- a name and a kind alone
abbrev pub free : List ℕ → List ℕ → Data
free named kind = object (member (codes "kind") (string kind) (member (codes "name") (string named) no_members))

-- a parameter of this name, by its kind
abbrev pub written_kind : List ℕ → ParamKind → Data
written_kind named (param.Ana min max) = ranged named (codes "AnaServParam") min max
written_kind named (param.DInt min max) = ranged named (codes "DIntServParam") min max
written_kind named param.Bin = free named (codes "BinServParam")
written_kind named param.Text = free named (codes "StringServParam")

-- a parameter: every key but `min` and `max` where the kind has none
unfoldable pub written_param : PlainParam → Data
written_param param = written_kind param.name param.kind

-- the name of the kind of a variable
abbrev pub variable_word : ViewKind → List ℕ
variable_word variable.Ana = codes "AnaView"
variable_word variable.DInt = codes "DIntView"
variable_word variable.Bin = codes "BinView"
variable_word variable.Text = codes "StringView"

-- a variable: its name and its kind
unfoldable pub written_variable : PlainVariable → Data
written_variable variable = free variable.name (variable_word variable.kind)

-- a procedure, with every key
unfoldable pub written_procedure : PlainProcedure → Data
written_procedure procedure = object
    (member (codes "default") (boolean procedure.is_default)
    (member (codes "number") (number (unsigned procedure.number))
    (member (codes "params") (array (items_of (map written_param procedure.params)))
    (member (codes "self_completing") (boolean procedure.self_completing) no_members))))

-- a service, with every key
unfoldable pub written_service : PlainService → Data
written_service service = object
    (member (codes "name") (string service.name)
    (member (codes "procedures") (array (items_of (map written_procedure service.procedures))) no_members))

-- a description, with every key, and the text of the version that was read
unfoldable pub written_description : PlainDescription → Data
written_description description = object
    (member (codes "services") (array (items_of (map written_service description.services)))
    (member (codes "type") (string description.type_name)
    (member (codes "variables") (array (items_of (map written_variable description.variables)))
    (member (codes "version") (string description.version_text) no_members))))
