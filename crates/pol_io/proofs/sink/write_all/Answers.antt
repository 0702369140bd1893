use Rattle.std.proofs.Common.{◌<◌, arith, length-drop, ◌∙◌}
use Rattle.std.proofs.Math.Seq.{take-add}
use Rattle.std.proofs.lemmas.List.{take_rest}
use Rattle.pol_io.proofs.Known.{Appends_trans}
use Rattle.pol_io.proofs.sink.write_all.Goals as goal

pub loop-at-preserved : goal.loop-at-preserved
loop-at-preserved g c = record {
  within = let fits = rw (take_rest, length-drop) at c.in_ok-at.ensures.bound in omega (arith, fits);
  taken =
      rw (take-add c.loop-at.at c.in_ok-at.field-0 c.args.piece.now)
      (Appends_trans _ _ _ _ _ c.loop-at.invariant.taken (rw take_rest at c.in_ok-at.ensures.bytes));
  uncalled = λ none.
      let some : 0 < c.in_ok-at.field-0 = c.in_ok-at.ensures.progress (rw (take_rest, length-drop) (omega arith)) in
      absurd (omega (arith, some, none));
  sound = c.in_ok-at.ensures.cause.done ∙ c.loop-at.invariant.sound;
}
