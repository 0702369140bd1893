use Rattle.std.proofs.Common.{◌≡◌, get_or, arith, refl, true}
use Rattle.std.proofs.lemmas.Grind.{common_steps}
use Rattle.std.proofs.lemmas.List.Folds.{list_all_more}
use Rattle.std.specs.Char.{is_ascii_digit}
use Rattle.pol_lines.proofs.Digits.{few_digits_are_small, one_more}
use Rattle.pol_lines.proofs.leaf.digits.Goals as goal

pub overflow_mul-value : goal.overflow_mul-value
overflow_mul-value c =
    let small = few_digits_are_small c.args.text.now c.loop-i.i c.if-i-ge18.false c.loop-i.invariant.digits in
    grind (arith, small, c.loop-i.invariant.value)

pub overflow_add-value : goal.overflow_add-value
overflow_add-value c =
    let small = few_digits_are_small c.args.text.now c.loop-i.i c.if-i-ge18.false c.loop-i.invariant.digits in
    grind (arith, common_steps, small, c.loop-i.invariant.value, c.if-not-is_ascii_digit.ensures.value)

pub loop-i-preserved : goal.loop-i-preserved
loop-i-preserved c =
    let is : is_ascii_digit (get_or c.args.text.now c.loop-i.i 0) ≡ true =
    grind (arith, common_steps, c.if-not-is_ascii_digit.ensures.value) in record {
      few = grind (arith);
      digits = grind (
        arith,
        common_steps,
        list_all_more is_ascii_digit c.args.text.now c.loop-i.i 0
            c.loop-i-test.true,
        c.if-not-is_ascii_digit.ensures.value,
      );
      value = grind (
        arith,
        one_more c.args.text.now c.loop-i.i
            (get_or c.args.text.now c.loop-i.i 0) c.loop-i-test.true refl is,
        c.loop-i.invariant.value,
      );
    }
