use Rattle.std.proofs.Common.{◌≡◌, Ok, codes, sym, subst, arith}
use Rattle.std.proofs.lemmas.Grind.{common_steps}
use mir.Syntax.{w32, w64}
use mir.Val.{of_z, to_z}
use Rattle.mtp_codes.specs.Numbers.{greatest_i32, least_i32}
use Rattle.mtp_assembly.specs.declared.param.ParamKind.TheVariants.{DInt}
use Rattle.mtp_json.specs.Form.{field}
use Rattle.mtp_json.specs.Leaf.{whole}
use Rattle.pol_lines.specs.Flat.{flat_data}
use Rattle.pol_lines.proofs.Describing.{ranged_of_parts}
use Rattle.pol_lines.proofs.params.dint_param.Goals as goal

pub returns : goal.returns
returns c =
    let min = to_z w32 (of_z w32 (to_z w64 (of_z w64 c.in_ok-min.field-0))) in
    let max = to_z w32 (of_z w32 (to_z w64 (of_z w64 c.in_ok-max.field-0))) in
    let same_min : c.in_ok-min.field-0 ≡ min = grind (arith, common_steps, c.in_ok-min.ensures.within) in
    let same_max : c.in_ok-max.field-0 ≡ max = grind (arith, common_steps, c.in_ok-max.ensures.within) in
    let is_min = subst (λ z. field (codes "min") (whole least_i32 greatest_i32) (flat_data c.args.members.now) ≡ Ok z)
    same_min c.in_ok-min.ensures.value in
    let is_max = subst (λ z. field (codes "max") (whole least_i32 greatest_i32) (flat_data c.args.members.now) ≡ Ok z)
    same_max c.in_ok-max.ensures.value in
    ranged_of_parts c.args.members.now c.args.name least_i32 greatest_i32 min max DInt is_min is_max
    (sym c.if-not-are_of_ranged.ensures) c.if-max-min.false
