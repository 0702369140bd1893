use Rattle.std.proofs.Common.{arith, ap, sym, ◌∙◌}
use Rattle.pol_demo.specs.Journal.{leveled, measured}
use Rattle.pol_demo.specs.Telling.{line_told, told_by}
use Rattle.pol_demo.specs.Values.{value_of}
use Rattle.pol_demo.proofs.Runs.{drawn_next, drawn_none}
use Rattle.pol_demo.proofs.Told.{told_next, told_none}
use Rattle.pol_demo.proofs.journal.measure.Goals as goal

pub loop-place-init : goal.loop-place-init
loop-place-init c = record {
  told = told_none (measured c.args.tag c.args.sequence.now) _;
  drawn = drawn_none c.args.sequence.now;
  at = omega arith;
}

pub loop-place-preserved : goal.loop-place-preserved
loop-place-preserved c =
    let tells = c.in_ok-tell_level.ensures in
    let so_far = c.loop-place.invariant in
    let next = drawn_next c.args.sequence.now c.loop-place.place _ _ so_far.drawn c.next-value.ensures.number in
    let value = c.next-value.ensures.value ∙ ap value_of (sym c.next-value.ensures.number ∙ next) in
    record {
      told = told_next (measured c.args.tag c.args.sequence.now) c.loop-place.place _ _ _ so_far.told
          (tells.told ∙ ap (λ value. line_told (leveled c.args.tag value) (told_by c.loop-place.teller)) value);
      drawn = next;
      at = let here = tells.at in let before = so_far.at in omega (arith, here, before);
    }
