-- The old module is docked again.
use Rattle.std.proofs.Common.{refl}
use Rattle.std.proofs.lemmas.Result.{on_ok_weaker}
use Rattle.pol_slots.proofs.Docking.{docked_again}
use Rattle.pol_slots.proofs.slot.Slot.cancel.Goals as goal

pub returns-clause-docked : goal.returns-clause-docked
returns-clause-docked c = on_ok_weaker _ (λ back. docked_again _ _ _ _ back refl refl refl)
    c.cancel-berth.ensures.docked
