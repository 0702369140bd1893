use Rattle.std.proofs.Common.{◌≡◌, Ok, codes, sym, subst, arith}
use Rattle.std.proofs.lemmas.Grind.{common_steps}
use mir.Syntax.{w64}
use mir.Val.{of_z, to_z}
use Rattle.mtp_codes.specs.Numbers.{greatest_i64, least_i64}
use Rattle.mtp_assembly.specs.declared.param.ParamKind.TheVariants.{Ana}
use Rattle.mtp_json.specs.Form.{field}
use Rattle.mtp_json.specs.Leaf.{whole}
use Rattle.pol_lines.specs.Flat.{flat_data}
use Rattle.pol_lines.proofs.Describing.{ranged_of_parts}
use Rattle.pol_lines.proofs.params.ana_param.Goals as goal

pub returns : goal.returns
returns c =
    let min = to_z w64 (of_z w64 c.in_ok-min.min) in
    let max = to_z w64 (of_z w64 c.in_ok-max.max) in
    let same_min : c.in_ok-min.min ≡ min = grind (arith, common_steps, c.in_ok-min.ensures.within) in
    let same_max : c.in_ok-max.max ≡ max = grind (arith, common_steps, c.in_ok-max.ensures.within) in
    let is_min = subst (λ z. field (codes "min") (whole least_i64 greatest_i64) (flat_data c.args.members.now) ≡ Ok z)
    same_min c.in_ok-min.ensures.value in
    let is_max = subst (λ z. field (codes "max") (whole least_i64 greatest_i64) (flat_data c.args.members.now) ≡ Ok z)
    same_max c.in_ok-max.ensures.value in
    ranged_of_parts c.args.members.now c.args.name least_i64 greatest_i64 min max Ana is_min is_max
    (sym c.if-not-are_of_ranged.ensures) c.if-max-min.false
