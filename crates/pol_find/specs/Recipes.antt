-- The recipes that a history makes known.
use Rattle.std.specs.Prelude.{ℕ, List, filter_map, reverse, Option, Some, None, if◌then◌else◌}
use Rattle.chart_core.specs.Charts.{plain_chart}
use Rattle.chart_core.specs.Roles.{PlainChart}
use Rattle.pol_events.specs.Events.{PlainEntry, PlainEvent, recipe}
use Rattle.pol_history.specs.Looking.{History, is_accepted}
use Rattle.pol_find.specs.declared.recipes.Recipe.{Recipe}

-- a recipe: its name and its chart
pub record PlainRecipe : Type 0 where
  pub name : List ℕ
  pub chart : PlainChart

-- the recipe that an event is about
abbrev pub recipe_in : PlainEvent → Option PlainRecipe
recipe_in (recipe at name chart) = Some (record { name = name; chart = chart })
recipe_in _ = None

-- the recipe that an entry makes known, where it was accepted
abbrev pub made_known : PlainEntry → Option PlainRecipe
made_known entry = if is_accepted entry.answer then recipe_in entry.event else None

-- the recipes of a history, in their order
abbrev pub recipes_of : History → List PlainRecipe
recipes_of history = filter_map made_known (reverse history)

-- what contracts see of a recipe
abbrev pub plain_recipe : Recipe → PlainRecipe
plain_recipe told = record { name = told.name; chart = plain_chart told.chart.now }
