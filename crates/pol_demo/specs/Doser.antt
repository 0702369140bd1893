-- The module that a demo journal docks, and the recipe that its batches follow.
use Rattle.std.specs.Prelude.{[], ◌∷◌, true, codes, pos, None}
use Rattle.mtp_codes.specs.declared.value.Value.TheVariants.{Whole}
use Rattle.mtp_assembly.specs.Plain.{PlainParam, PlainVariable}
use Rattle.mtp_assembly.specs.declared.param.ParamKind.TheVariants.{DInt}
use Rattle.mtp_assembly.specs.declared.variable.ViewKind.TheVariants.{Ana}
use Rattle.mtp_desc.specs.Plain.{PlainDescription, PlainProcedure, PlainService}
use Rattle.chart_core.specs.Roles.{PlainChart, PlainRole}
use Rattle.chart_core.specs.Trees.{PlainStep, leaf}

-- the amount that is dosed: from 0 to 5000
abbrev pub amount : PlainParam
amount = record { name = codes "amount"; kind = DInt (pos 0) (pos 5000) }

-- the level in a doser
abbrev pub level : PlainVariable
level = record { name = codes "level"; kind = Ana }

-- the one procedure of a doser: it completes by itself, and takes an amount
abbrev pub dose : PlainProcedure
dose = record { number = 1; is_default = true; self_completing = true; params = amount ∷ [] }

-- the one service of a doser
abbrev pub dose_service : PlainService
dose_service = record { name = codes "dose"; procedures = dose ∷ [] }

-- a doser: one service, and its level
unfoldable pub doser : PlainDescription
doser =
    record {
      type_name = codes "Doser";
      version_text = codes "1.0.0";
      version = (1, 0, 0, [], []);
      services = dose_service ∷ [];
      variables = level ∷ [];
    }

-- the role of a doser
abbrev pub doser_role : PlainRole
doser_role = record { role = codes "A"; type_name = codes "Doser"; wants = codes "^1" }

-- the step of a doser that doses 1500
abbrev pub dose_step : PlainStep
dose_step =
    record {
      name = codes "s1";
      role = codes "A";
      service = codes "dose";
      procedure = 1;
      settings = record { name = codes "amount"; value = Whole (pos 1500) } ∷ [];
      finish = None;
    }

-- the recipe `one`: a doser doses 1500
unfoldable pub dosing : PlainChart
dosing = record { roles = doser_role ∷ []; root = leaf dose_step }
