-- The rows are freed as the seats are.
use Rattle.pol_table.proofs.Freeing.{sound_freed, look_freed, length_freed}
use Rattle.pol_table.proofs.holdings.Holdings.release.Goals as goal

pub invariant_of-self : goal.invariant_of-self
invariant_of-self g c = rw (c.free_each.ensures) (sound_freed _ _ _ c.self.invariant)

pub returns-clause-freed : goal.returns-clause-freed
returns-clause-freed g c tag = rw (← c.self.view_is, c.free_each.ensures) (look_freed _ _ _ c.self.invariant tag)

pub returns-clause-count : goal.returns-clause-count
returns-clause-count g c = rw (← c.self.view_is, c.free_each.ensures) (length_freed _ _ _ c.self.invariant)
