-- The new module is docked.
use Rattle.std.proofs.Common.{refl, sym, ◌∙◌}
use Rattle.pol_slots.proofs.Docking.{no_fault, docked_fresh}
use Rattle.pol_slots.proofs.slot.Slot.finish.Goals as goal

pub returns-in-Ok-answer-clause-accepted : goal.returns-in-Ok-answer-clause-accepted
returns-in-Ok-answer-clause-accepted c = no_fault _ (rw (← c.replace-berth.ensures.value)
    (sym c.finish-berth.ensures.answer ∙ c.in-Ok-answer.is))

pub returns-in-Ok-answer-clause-docked : goal.returns-in-Ok-answer-clause-docked
returns-in-Ok-answer-clause-docked c = docked_fresh _ _ _ _ (rw c.in-Ok-answer.is at c.finish-berth.ensures.docked)
    c.in-Ok.ensures.nothing refl refl refl
