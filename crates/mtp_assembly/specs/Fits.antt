-- Whether a value fits a parameter or a variable: the first of 'of another kind' and 'out of range'.
use Rattle.std.specs.Prelude.{ℤ, Option, Some, None, if◌then◌else◌}
use Rattle.mtp_codes.specs.declared.value.Value.{Value}
use Rattle.mtp_codes.specs.declared.value.Value.TheVariants as value
use Rattle.mtp_codes.specs.Numbers.{greatest_i32, is_within, least_i32}
use Rattle.mtp_assembly.specs.declared.check.ValueFault.{ValueFault}
use Rattle.mtp_assembly.specs.declared.check.ValueFault.TheVariants.{WrongKind, OutOfRange}
use Rattle.mtp_assembly.specs.declared.param.ParamKind.{ParamKind}
use Rattle.mtp_assembly.specs.declared.param.ParamKind.TheVariants as param
use Rattle.mtp_assembly.specs.declared.variable.ViewKind.{ViewKind}
use Rattle.mtp_assembly.specs.declared.variable.ViewKind.TheVariants as variable

-- a whole number that is not from low to high is out of range
abbrev pub range_fault : ℤ → ℤ → ℤ → Option ValueFault
range_fault low high z = if is_within low high z then None else Some OutOfRange

-- what is wrong with a value for a parameter of this kind, if anything is
abbrev pub value_fault : ParamKind → Value → Option ValueFault
value_fault (param.Ana min max) (value.Whole z) = range_fault min max z
value_fault (param.DInt min max) (value.Whole z) = range_fault min max z
value_fault param.Bin (value.Bit _) = None
value_fault param.Text (value.Text _) = None
value_fault _ _ = Some WrongKind

-- what is wrong with a value for a variable of this kind, if anything is
abbrev pub view_fault : ViewKind → Value → Option ValueFault
view_fault variable.Ana (value.Whole z) = None
view_fault variable.DInt (value.Whole z) = range_fault least_i32 greatest_i32 z
view_fault variable.Bin (value.Bit _) = None
view_fault variable.Text (value.Text _) = None
view_fault _ _ = Some WrongKind
