use Rattle.pol_guard.proofs.Sound.{guard_theorem}
use Rattle.pol_guard.proofs.laws.guards_are_sound.Goals as goal

pub returns-clause-theorem : goal.returns-clause-theorem
returns-clause-theorem c = guard_theorem c.verdicts_are_judged.ensures c.removal_of_events.ensures
