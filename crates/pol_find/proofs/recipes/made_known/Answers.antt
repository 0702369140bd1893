-- An accepted recipe is made known.
use Rattle.std.proofs.Common.{refl, sym, ◌∙◌}
use Rattle.pol_find.proofs.recipes.made_known.Goals as goal

pub returns-in-Recipe : goal.returns-in-Recipe
returns-in-Recipe c =
    rw (c.in-Recipe.is, sym c.is_accepted.ensures ∙ c.if-is_accepted.true, c.deref.ensures) refl
