-- Parameters and variables as plain data.
use Rattle.std.specs.Prelude.{ℕ, List}
use Rattle.mtp_assembly.specs.declared.param.Param.{Param}
use Rattle.mtp_assembly.specs.declared.param.ParamKind.{ParamKind}
use Rattle.mtp_assembly.specs.declared.variable.View.{View}
use Rattle.mtp_assembly.specs.declared.variable.ViewKind.{ViewKind}

-- a parameter: its name and its kind
pub record PlainParam : Type 0 where
  pub name : List ℕ
  pub kind : ParamKind

-- a variable: its name and its kind
pub record PlainVariable : Type 0 where
  pub name : List ℕ
  pub kind : ViewKind

-- what a parameter says
abbrev pub plain_param : Param → PlainParam
plain_param param = record { name = param.name; kind = param.kind }

-- what a variable says
abbrev pub plain_variable : View → PlainVariable
plain_variable variable = record { name = variable.name; kind = variable.kind }
