-- What a finder writes after a history: a line for each recipe, and how many lines were at fault.
use Rattle.std.specs.Prelude.{ℕ, ◌≡◌, List, [], ◌∷◌, ◌++◌}
use Rattle.pol_history.specs.Looking.{History}
use Rattle.pol_history.specs.Runs.{IsLegal, IsOrderly}
use Rattle.pol_match.specs.Findings.{IsToldRightly}
use Rattle.pol_match.specs.Fits.{PlainCandidate}
use Rattle.pol_record.specs.Texts.{line_text}
use Rattle.pol_find.specs.Candidates.{candidates_of}
use Rattle.pol_find.specs.Lines.{bad_text}
use Rattle.pol_find.specs.Recipes.{PlainRecipe, recipes_of}
use Rattle.pol_find.specs.Told.{told_of}

-- the text is the line of the recipe, which says its least binding to the candidates, or a shortage where it has none
pub record Tells (candidates : List PlainCandidate) (recipe : PlainRecipe) (text : List ℕ) : Type 0 where
  pub is : text ≡ line_text (told_of candidates recipe)
  pub right : IsToldRightly recipe.chart candidates

-- a text of two parts, one behind the other
pub record Follows (First Second : List ℕ → Type 0) (text : List ℕ) : Type 0 where
  pub first : List ℕ
  pub second : List ℕ
  pub one : First first
  pub other : Second second
  pub is : text ≡ first ++ second

-- the text has a line for each of these recipes
abbrev pub TellsEach : List PlainCandidate → List PlainRecipe → List ℕ → Type 0
TellsEach candidates [] text = text ≡ []
TellsEach candidates (recipe ∷ recipes) text = Follows (Tells candidates recipe) (TellsEach candidates recipes) text

-- what is found after a history, with so many lines at fault: a line for each recipe, and the last line
abbrev pub IsFound : History → ℕ → List ℕ → Type 0
IsFound history bad = Follows (TellsEach (candidates_of history) (recipes_of history)) (λ text. text ≡ bad_text bad)

-- After every legal and orderly history the finder has an output: a recipe that has no binding has a shortage.
abbrev pub AreFound : Type 0
AreFound =
    (history : History) (bad : ℕ) → IsLegal history → IsOrderly history → (text : List ℕ) × IsFound history bad text

-- After every history the finder has at most one output.
abbrev pub FindingsAreOne : Type 0
FindingsAreOne =
    (history : History) (bad : ℕ) (one other : List ℕ) → IsFound history bad one → IsFound history bad other
    → one ≡ other
