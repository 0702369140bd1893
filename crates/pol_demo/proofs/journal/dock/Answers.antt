use Rattle.std.proofs.Common.{arith}
use Rattle.pol_demo.specs.Journal.{docked}
use Rattle.pol_demo.proofs.Told.{told_next, told_none}
use Rattle.pol_demo.proofs.journal.dock.Goals as goal

pub loop-place-init : goal.loop-place-init
loop-place-init c = record { told = told_none docked _; at = omega arith }

pub loop-place-preserved : goal.loop-place-preserved
loop-place-preserved c =
    let docks = c.in_ok-dock_at.ensures in
    let so_far = c.loop-place.invariant in
    record {
      told = told_next docked c.loop-place.place _ _ _ so_far.told docks.told;
      at = let here = docks.at in let before = so_far.at in omega (arith, here, before);
    }
