-- What a plant's policy says.
use Rattle.std.specs.Prelude.{map}
use Rattle.std.specs.Option.{option_map}
use Rattle.pol_policy.specs.PlainPolicy.{plain_policy}
use Rattle.pol_rights.specs.Rules.{PlainPlantPolicy, plain_line_rule}
use Rattle.pol_rights.specs.declared.plant_policy.PlantPolicy.{PlantPolicy}

-- a plant's policy as plain data
abbrev pub plain_plant_policy : PlantPolicy → PlainPlantPolicy
plain_plant_policy policy =
    record {
      commands = plain_policy policy.commands;
      lines = option_map (λ lines. map plain_line_rule lines.rules.items) policy.lines;
    }
