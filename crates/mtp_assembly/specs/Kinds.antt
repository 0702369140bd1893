-- The ranges of parameters.
use Rattle.std.specs.Prelude.{◌&&◌, int_lt, Bool, true, not}
use Rattle.mtp_codes.specs.Numbers.{least_i32, greatest_i32, least_i64, greatest_i64, is_within}
use Rattle.mtp_assembly.specs.declared.param.ParamKind.{ParamKind}
use Rattle.mtp_assembly.specs.declared.param.ParamKind.TheVariants.{Ana, DInt, Bin, Text}

-- the bounds of a kind are numbers of its width, and the least value is not above the greatest
abbrev pub is_ordered : ParamKind → Bool
is_ordered (Ana min max) = is_within least_i64 greatest_i64 min &&
    (is_within least_i64 greatest_i64 max && not (int_lt max min))
is_ordered (DInt min max) = is_within least_i32 greatest_i32 min &&
    (is_within least_i32 greatest_i32 max && not (int_lt max min))
is_ordered Bin = true
is_ordered Text = true
