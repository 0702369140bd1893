-- What the recipes keep of a history.
use Rattle.std.specs.Prelude.{ℕ, ◌≡◌, false, List, ◌∷◌, length, Option, Some, None, filter_map, reverse}
use Rattle.std.specs.Map.{keys_of, lookup}
use Rattle.std.specs.Option.{option_map}
use Rattle.std.specs.Str.{bytes_eq}
use Rattle.std.specs.declared.sync.Arc.{Arc}
use Rattle.chart_core.specs.Charts.{plain_chart}
use Rattle.chart_core.specs.Roles.{PlainChart}
use Rattle.chart_core.specs.Valid.{IsValid}
use Rattle.chart_core.specs.declared.chart.Chart.{Chart}
use Rattle.pol_events.specs.Events.{PlainEvent, recipe}
use Rattle.pol_events.specs.declared.answer.Answer.{Answer}
use Rattle.pol_history.specs.Answers.{answer_of, is_full}
use Rattle.pol_history.specs.Batches.{chart_named}
use Rattle.pol_history.specs.Looking.{History, recipes}
use Rattle.pol_history.specs.Runs.{entry_of}

-- each chart is valid
abbrev pub AreValid : {Z : Type 0} → List (List ℕ × Arc Chart Z) → Type 0
AreValid {Z} known =
    (name : List ℕ) (chart : Arc Chart Z) → lookup (bytes_eq name) known ≡ Some chart
    → IsValid (plain_chart chart.value)

-- the name of the recipe that an event brings
abbrev pub recipe_brought : PlainEvent → Option (List ℕ)
recipe_brought (recipe at name chart) = Some name
recipe_brought _ = None

-- the names of these recipes, which are listed the newest first, in the order in which they were made known
abbrev pub names_in : History → List (List ℕ)
names_in recipes = reverse (filter_map (λ entry. recipe_brought entry.event) recipes)

-- each name has the chart that the accepted recipes bring, and there are as many names, in the order of these recipes
pub record RecipesMirror {Z : Type 0} (known : List (List ℕ × Arc Chart Z)) (history : History) : Type 0 where
  pub named : (name : List ℕ) → option_map (λ (chart : Arc Chart Z). plain_chart chart.value)
      (lookup (bytes_eq name) known) ≡ chart_named name (recipes history)
  pub valid : AreValid known
  pub count : length known ≡ length (recipes history)
  pub order : keys_of known ≡ names_in (recipes history)

-- the answer to a recipe is the defined one, the recipes keep the history with it, and none changes
pub record AnswersRecipe {Z : Type 0} (history : History) (event : PlainEvent) (answer : Answer)
    (known : List (List ℕ × Arc Chart Z)) : Type 0 where
  pub answer_is : answer ≡ answer_of history event
  pub known_is : RecipesMirror known (entry_of history event ∷ history)
  pub names : (name : List ℕ) (chart : PlainChart) → chart_named name (recipes history) ≡ Some chart
      → chart_named name (recipes (entry_of history event ∷ history)) ≡ Some chart

-- a recipe is answered as defined after each history with room that the recipes keep, whatever its stamp
abbrev pub RecipeAnswers : {Z : Type 0} → (ℕ → PlainEvent) → List (List ℕ × Arc Chart Z) → Answer →
    List (List ℕ × Arc Chart Z) → Type 0
RecipeAnswers event old answer new =
    (history : History) (at : ℕ) → RecipesMirror old history → is_full history ≡ false
    → AnswersRecipe history (event at) answer new
