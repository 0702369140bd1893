-- What is written of a recipe, as a function of the recipe and of the candidates.
use Rattle.std.specs.Prelude.{List, Option, Some, None}
use Rattle.std.specs.List.{AllByRecursion}
use Rattle.serde_json.specs.Data.{Data}
use Rattle.pol_events.specs.ByRole.{by_role}
use Rattle.pol_events.specs.declared.event.Bind.{Bind}
use Rattle.event_json.specs.Written.{written_binds}
use Rattle.pol_match.specs.Chosen.{binding_of, short_roles, short_tags}
use Rattle.pol_match.specs.Findings.{IsToldRightly}
use Rattle.pol_match.specs.Fits.{PlainCandidate}
use Rattle.pol_find.specs.Lines.{bind_object, names_data, short_object}
use Rattle.pol_find.specs.Recipes.{PlainRecipe}

-- the object of a recipe with this binding, in byte order of the roles; without one, with the shortage
abbrev pub told_with : List PlainCandidate → PlainRecipe → Option (List Bind) → Data
told_with candidates recipe (Some binds) = bind_object (written_binds (by_role binds)) recipe.name
told_with candidates recipe None =
    short_object recipe.name (names_data (short_roles recipe.chart candidates))
    (names_data (short_tags recipe.chart candidates))

-- the object that is written of a recipe
abbrev pub told_of : List PlainCandidate → PlainRecipe → Data
told_of candidates recipe = told_with candidates recipe (binding_of recipe.chart candidates)

-- what is written of each of these recipes is right: the least binding, or a shortage where there is no binding
abbrev pub AreToldRightly : List PlainCandidate → List PlainRecipe → Type 0
AreToldRightly candidates = AllByRecursion (λ recipe. IsToldRightly recipe.chart candidates)
