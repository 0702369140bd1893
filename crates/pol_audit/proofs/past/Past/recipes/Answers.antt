use Rattle.pol_audit.proofs.Placing.{placed_now}
use Rattle.pol_audit.proofs.past.Past.recipes.Goals as goal

pub returns : goal.returns
returns c = (placed_now _ c.self.view_is c.self.invariant).recipes
