-- There are as many as in the table.
use Rattle.std.proofs.Common.{◌∙◌}
use Rattle.pol_core.proofs.recipes.recipe_count.Goals as goal

pub returns : goal.returns
returns c = λ history known. c.len.ensures.len ∙ known.count
