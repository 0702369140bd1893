-- What is wrong with what a step demands of a module, if anything is.
use Rattle.std.specs.Prelude.{ℕ, List, [], ◌∷◌, Bool, not, ◌||◌, Option, Some, None, is_some, option_map}
use Rattle.std.specs.Prelude.{option_and_then, if◌then◌else◌}
use Rattle.std.specs.Bool.{beq}
use Rattle.std.specs.List.{list_all}
use Rattle.std.specs.Option.{option_or}
use Rattle.mtp_codes.specs.declared.value.Setting.{Setting}
use Rattle.mtp_assembly.specs.Fits.{value_fault}
use Rattle.mtp_assembly.specs.declared.check.ValueFault.{ValueFault}
use Rattle.mtp_assembly.specs.declared.check.ValueFault.TheVariants as value
use Rattle.mtp_desc.specs.Plain.{PlainProcedure, PlainDescription}
use Rattle.mtp_desc.specs.Lookup.{param_named, procedure_at}
use Rattle.mtp_procs.specs.declared.demand.StepFault.{StepFault}
use Rattle.mtp_procs.specs.declared.demand.StepFault.TheVariants.{NotCovered, WrongKind, OutOfRange}

-- the procedure has each parameter that is set
abbrev pub has_params : PlainProcedure → List Setting → Bool
has_params procedure settings = list_all (λ setting. is_some (param_named setting.name procedure)) settings

-- what is wrong with the value that a parameter is set to
abbrev pub setting_fault : PlainProcedure → Setting → Option ValueFault
setting_fault procedure setting =
    option_and_then (λ param. value_fault param.kind setting.value) (param_named setting.name procedure)

-- the fault of the first setting that has one
abbrev pub settings_fault : PlainProcedure → List Setting → Option ValueFault
settings_fault procedure [] = None
settings_fault procedure (setting ∷ others) = option_or (setting_fault procedure setting)
    (settings_fault procedure others)

-- a value's fault as a step's
abbrev pub of_value : ValueFault → StepFault
of_value value.WrongKind = WrongKind
of_value value.OutOfRange = OutOfRange

-- What is wrong with demanding this of the procedure: it isn't there, it hasn't a parameter that is set, or it is
-- finished by command where it completes by itself and the other way round; else the first value that doesn't fit.
abbrev pub procedure_fault : List Setting → Bool → Option PlainProcedure → Option StepFault
procedure_fault settings finishes None = Some NotCovered
procedure_fault settings finishes (Some procedure) =
    if not (has_params procedure settings) || beq finishes procedure.self_completing
    then Some NotCovered
    else option_map of_value (settings_fault procedure settings)

-- what is wrong with demanding this procedure of this service, with these settings, finished by command or not
abbrev pub step_fault : PlainDescription → List ℕ → ℕ → List Setting → Bool → Option StepFault
step_fault description service procedure settings finishes =
    procedure_fault settings finishes (procedure_at service procedure description)
